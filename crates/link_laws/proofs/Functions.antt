-- What the code of a function adds: a closure where it is made, and a function whose code can be linked.
use Rattle.std.proofs.Common.{◌≡◌, ℕ, ◌+◌, ◌≤◌, ◌<◌, Bool, true, false, List, [], ◌∷◌, ◌++◌, length, refl, sym, ap, subst, arith}
use Rattle.op_words.specs.declared.insn.Insn.TheVariants as i
use Rattle.code_link.specs.Labels.{word_count, IsLinkable}
use Rattle.syntax_tree.specs.declared.bindings.Bindings.{Bindings}
use Rattle.emit_expr.specs.declared.draft.Emitter.{Emitter}
use Rattle.emit_expr.specs.declared.draft.Draft.{Draft}
use Rattle.emit_expr.specs.declared.draft.Prototype.{Prototype}
use Rattle.emit_expr.specs.Puts as puts
use Rattle.emit_expr.specs.Puts.{with_draft, with_child, with_prototype}
use Rattle.emit_expr.specs.Names as names
use Rattle.node_code.specs.Nodes.{StatCode, FuncCode}
use Rattle.node_code.specs.Code as code
use Rattle.link_laws.specs.Laws.{AreLinkable}
use Rattle.link_laws.proofs.Items.{times, Covers, Jumps, linkable}
use Rattle.link_laws.proofs.Numbers.{none, span, span_one}
use Rattle.link_laws.proofs.Adds.{Adds, nothing, both, fit, one}
use Rattle.link_laws.proofs.Parts.{captures_good, declared_good}
use Rattle.link_laws.proofs.Blocks.{Stats, stats_le, stats_good}

-- the code of a function, whose nodes have the numbers from n up to below m, and which captures so many variables
pub record GoodFunc (n m captured : ℕ) (f : FuncCode) : Type 0 where
  pub order : n < m
  pub run : (F : ℕ → Bool) (to : ℕ) (d : Emitter) → Adds F (Unit {0}) none (1 + captured) d (f to d)

pub all_linkable : (ps : List Prototype) (p : Prototype) → AreLinkable ps → IsLinkable p.items → AreLinkable (ps ++ p ∷ [])
all_linkable [] p h is = (is, tt)
all_linkable (q ∷ ps) p h is = (h.0, all_linkable ps p h.1 is)

child : (F : ℕ → Bool) (N : Type 0) (number : ℕ) (d : Emitter) → Adds F N none 0 d (puts.with_child number d)
unfolding with_child
child F N number d = record {
  labels = λ l. omega arith;
  words = omega arith;
  back = λ h. h;
  on = λ n h j. j;
  func = refl;
  protos = λ h. h;
}

prepared : (F : ℕ → Bool) (N : Type 0) (vararg : Bool) (params : ℕ) (d : Emitter) → Adds F N none 1 d (code.prepared vararg params d)
prepared F N true params d = one F N (i.PrepVarargs params) d refl
prepared F N false params d = fit (nothing F N d) (λ l. omega arith) (omega arith)

prototype : (F : ℕ → Bool) (N : Type 0) (p : Prototype) (d : Emitter) → IsLinkable p.items → Adds F N none 0 d (puts.with_prototype p d)
unfolding with_prototype
prototype F N p d is = record {
  labels = λ l. omega arith;
  words = omega arith;
  back = λ h. h;
  on = λ n h j. j;
  func = refl;
  protos = λ h. all_linkable d.protos p h is;
}

-- back in the function around, where the functions that are done can be linked
restored : (F : ℕ → Bool) (N : Type 0) (f : Draft) (d inside : Emitter) → f ≡ d.draft → (AreLinkable d.protos → AreLinkable inside.protos)
    → Adds F N none 0 d (puts.with_draft f inside)
unfolding with_draft
restored F N f d inside e h = record {
  labels = λ l. let a = ap (λ (x : Draft). times l x.items) e in omega (arith, a);
  words = let a = ap (λ (x : Draft). word_count x.items) e in omega (arith, a);
  back = subst (λ (x : Draft). Covers F x.items → Covers F d.draft.items) (sym e) (λ c. c);
  on = λ n. subst (λ (x : Draft). Covers F x.items → Jumps F d.draft.items → Jumps F x.items) (sym e) (λ c j. j);
  func = ap (λ (x : Draft). x.func) e;
  protos = h;
}

-- the code of a function that begins with nothing can be linked
whole_linkable : (id n m all : ℕ) (d d' : Emitter) → 8 + all ≤ 30000 → ((F : ℕ → Bool) → Adds F (Unit {0}) (span n m) (all + 2)
    (puts.with_draft (puts.blank id) d) d') → IsLinkable d'.draft.items
unfolding with_draft
whole_linkable id n m all d d' short h =
    let p = h (λ l. false) in
    linkable d'.draft.items
    (λ l. let a = p.labels l in let b = span_one n m l in omega (arith, a, b))
    (λ F c. (h F).on tt c tt)
    (let a = p.words in omega (arith, a, short))

kept : (id : ℕ) (d d' : Emitter) → (AreLinkable (puts.with_draft (puts.blank id) d).protos → AreLinkable d'.protos) → AreLinkable d.protos
    → AreLinkable d'.protos
unfolding with_draft
kept id d d' h = h

named : (id : ℕ) (d d' : Emitter) → d'.draft.func ≡ (puts.with_draft (puts.blank id) d).draft.func → d'.draft.func ≡ id
unfolding with_draft
named id d d' e = e

pub func_good : (b : Bindings) (id m all params : ℕ) (vararg : Bool) (body : List StatCode) → Stats (id + 1) body all m false → 8 + all ≤ 30000
    → GoodFunc id m (length (names.upvalues_at b id)) (code.func_run b id params vararg body)
func_good b id m all params vararg body h short = record {
  order = let le = stats_le (id + 1) body all m false h in omega (arith, le);
  run = run;
}
  where
    run : (F : ℕ → Bool) (to : ℕ) (d : Emitter) → Adds F (Unit {0}) none (1 + length (names.upvalues_at b id)) d (code.func_run b id params vararg body to d)
    run F to d =
        let begun = puts.with_draft (puts.blank id) d in
        let d1 = code.prepared vararg params begun in
        let d2 = names.declare_all (names.first_at b id) 0 params d1 in
        let d3 = code.stats_run body params code.no_loop d2 in
        let d4 = puts.insn (i.Return 0 1) d3 in
        let inside : (G : ℕ → Bool) → Adds G (Unit {0}) (span (id + 1) m) (all + 2) begun d4 = λ G.
        fit (both (both (both (prepared G (Unit {0}) vararg params begun) (declared_good G (Unit {0}) (names.first_at b id) 0 params d1))
        (stats_good G (Unit {0}) (id + 1) body all m false h params code.no_loop d2 (λ u e. cc))) (one G (Unit {0}) (i.Return 0 1) d3 refl))
        (λ l. omega arith) (omega arith) in
        let links : IsLinkable d4.draft.items = whole_linkable id (id + 1) m all d d4 short inside in
        let o0 = puts.with_draft d.draft d4 in
        let o1 = puts.insn (i.NewClosure to (puts.short (length d.draft.children))) o0 in
        let o2 = puts.with_child (length d4.protos) o1 in
        let o3 = names.captures b (names.upvalues_at b d4.draft.func) o2 in
        let p0 = restored F (Unit {0}) d.draft d d4 refl (kept id d d4 (inside F).protos) in
        let p1 = one F (Unit {0}) (i.NewClosure to (puts.short (length d.draft.children))) o0 refl in
        let p2 = child F (Unit {0}) (length d4.protos) o1 in
        let p3 = captures_good F (Unit {0}) b (names.upvalues_at b d4.draft.func) o2 in
        let p4 = prototype F (Unit {0}) (puts.done params vararg d4.draft) o3 links in
        let count : length (names.upvalues_at b d4.draft.func) ≡ length (names.upvalues_at b id) = ap (λ k. length (names.upvalues_at b k))
        (named id d d4 (inside F).func) in
        fit (both (both (both (both p0 p1) p2) p3) p4) (λ l. omega arith) (omega (arith, count))
