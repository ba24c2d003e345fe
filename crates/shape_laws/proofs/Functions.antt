-- The code of a function keeps the shape of the function around, and has the shape itself.
use Rattle.std.proofs.Common.{◌≡◌, ℕ, ℤ, Bool, true, false, List, [], ◌∷◌, ◌++◌, length, Option, Some, None, refl, sym, ap, ◌∙◌, subst, arith, min, append-nil, length-append}
use Rattle.std.specs.Prelude.{slice_get, option_map}
use Rattle.op_words.specs.declared.insn.Insn.TheVariants as i
use Rattle.code_link.specs.declared.item.Item.TheVariants as item
use Rattle.syntax_tree.specs.declared.bindings.Bindings.{Bindings}
use Rattle.emit_expr.specs.declared.draft.Emitter.{Emitter}
use Rattle.emit_expr.specs.declared.draft.Prototype.{Prototype}
use Rattle.emit_expr.specs.Puts as puts
use Rattle.emit_expr.specs.Puts.{with_draft, with_child, with_prototype}
use Rattle.emit_expr.specs.Puts.{put as put_item}
use Rattle.emit_expr.specs.Names as names
use Rattle.emit_laws.specs.Growing.{Prefix, Grows}
use Rattle.emit_laws.proofs.Grows as grows
use Rattle.link_laws.proofs.Items.{words_insn}
use Rattle.node_code.specs.Nodes.{StatCode, FuncCode}
use Rattle.node_code.specs.Code as code
use Rattle.shape_laws.specs.Order.{Nothing, Captures, captures, count_at}
use Rattle.shape_laws.specs.Named.{PlainItem}
use Rattle.shape_laws.specs.Shaped.{IsChild, AreChildren, IsShaped, AreShaped}
use Rattle.shape_laws.proofs.Lists.{get_last, body_last, constants_more, shaped_last, children_more, children_last, children_length, prefix_length}
use Rattle.shape_laws.proofs.Walking.{walk_last, walk_more, jumps_insn}
use Rattle.shape_laws.proofs.Simple.{insn_by}
use Rattle.shape_laws.proofs.States.{Frame, Full, State, insn, seen_more}
use Rattle.shape_laws.proofs.Uses.{declared_good}
use Rattle.shape_laws.proofs.Bodies.{Stats, stats_good}

-- a function that begins
abbrev pub begin : Bool → ℕ → Frame
begin vararg params = record { placed = []; pending = []; kept = []; credit = 0; vararg = vararg; params = params }

module _ (b : Bindings) where
  -- the code of a function, whose closure is made in a register
  abbrev pub GoodFunc : FuncCode → Type 0
  GoodFunc c = (k : Frame) (to : ℕ) (d : Emitter) → State b k Nothing d → State b k Nothing (c to d)

  -- ---- inside

  begun_good : (vararg : Bool) (params id : ℕ) (d : Emitter) → AreShaped b (length d.strings) [] d.protos
      → State b (begin vararg params) Nothing (code.prepared vararg params (puts.with_draft (puts.blank id) d))
  unfolding with_draft put_item
  begun_good false params id d h = record {
    counts = [];
    order = λ low. refl;
    body = λ low. tt;
    constants_few = omega arith;
    children_few = omega arith;
    jumps = tt;
    placed = λ l p. absurd p;
    kept = λ x p. absurd p;
    constants = tt;
    children = tt;
    protos = h;
    behind = tt;
  }
  begun_good true params id d h = record {
    counts = [];
    order = λ low. refl;
    body = λ low. (refl, tt);
    constants_few = omega arith;
    children_few = omega arith;
    jumps = tt;
    placed = λ l p. absurd p;
    kept = λ x p. absurd p;
    constants = tt;
    children = tt;
    protos = h;
    behind = tt;
  }

  -- a function that is done
  done_shaped : (vararg : Bool) (params : ℕ) (d : Emitter) → State b (begin vararg params) Nothing (puts.insn (i.Return 0 1) d)
      → IsShaped b (length (puts.insn (i.Return 0 1) d).strings) (puts.insn (i.Return 0 1) d).protos (puts.done params vararg (puts.insn
      (i.Return 0 1) d).draft)
  unfolding put_item
  done_shaped vararg params d f = record {
    counts = f.counts;
    order = f.order;
    body = f.body;
    constants_few = let few = f.constants_few in omega (arith, few);
    children_few = f.children_few;
    jumps = f.jumps;
    constants = f.constants;
    children = subst (λ ps. AreChildren b ps d.draft.children f.counts) (append-nil d.protos) f.children;
    front = d.draft.items;
    ends = refl;
  }

  -- ---- outside

  -- the newest function is the child with the next number
  newest : (p : Prototype) (ps : List Prototype) → IsChild b (ps ++ p ∷ []) (puts.long (length ps)) (length (names.upvalues_at b p.func))
  newest p ps =
      let e = length-append ps (p ∷ []) in
      record {
        below = omega (arith, e);
        proto = p;
        at = λ few.
            let same : min (length ps) 4294967295 ≡ length ps = omega (arith, e, few) in
            ap (λ n. slice_get (ps ++ p ∷ []) n) same ∙ get_last ps [] p;
        captures = refl;
      }

  closure_plain : (a : ℕ) (z : ℤ) (consts : _) → PlainItem consts (item.Insn (i.NewClosure a z))
  closure_plain a z consts = insn_by _ _ refl refl refl refl refl refl

  -- the closure is made, and owes its captures
  made_good : (k : Frame) (to : ℕ) (p : Prototype) (d inside : Emitter) → Prefix d.protos inside.protos → Prefix d.strings inside.strings
      → AreShaped b (length inside.strings) [] inside.protos
      → IsShaped b (length inside.strings) inside.protos p → State b k Nothing d
      → Full b (p ∷ []) k (captures (length (names.upvalues_at b p.func)))
      (puts.with_child (length inside.protos) (puts.insn (i.NewClosure to (puts.short (length d.draft.children))) (puts.with_draft d.draft inside)))
  unfolding with_draft with_child put_item
  made_good k to p d inside grown texts shaped is f =
      let n = length d.draft.children in
      let m = length (names.upvalues_at b p.func) in
      let x = i.NewClosure to (puts.short n) in
      let old : AreChildren b d.protos d.draft.children f.counts = subst (λ ps. AreChildren b ps d.draft.children f.counts) (append-nil d.protos) f.children in
      let inner : AreChildren b inside.protos d.draft.children f.counts = subst (λ ps. AreChildren b ps d.draft.children f.counts) (sym grown.is)
      (children_more b d.protos grown.more d.draft.children f.counts old) in
      let count : n ≡ length f.counts = children_length b d.protos d.draft.children f.counts old in
      let one_more = length-append d.draft.children (puts.long (length inside.protos) ∷ []) in
      let w = words_insn d.draft.items x in
      let few = f.constants_few in
      let some = f.children_few in
      let texts_more = prefix_length d.strings inside.strings texts in
      record {
        counts = f.counts ++ m ∷ [];
        order = λ low.
            let short_is : min n 32767 ≡ length f.counts = omega (arith, low, one_more, count) in
            let there : count_at (f.counts ++ m ∷ []) (puts.short n) ≡ Some m = ap (slice_get (f.counts ++ m ∷ [])) short_is ∙ get_last f.counts [] m in
            walk_last (f.counts ++ m ∷ []) Nothing Nothing (captures m) d.draft.items (item.Insn x)
            (walk_more f.counts (m ∷ []) Nothing Nothing d.draft.items (f.order (omega (arith, low, one_more)))) (ap (option_map captures) there);
        body = λ low. body_last k.vararg k.params d.draft.constants d.draft.items (item.Insn x) (f.body low) (closure_plain to
            (puts.short n) d.draft.constants);
        constants_few = omega (arith, w, few);
        children_few = omega (arith, w, some, one_more);
        jumps = jumps_insn [] k.pending d.draft.items x f.jumps;
        placed = λ l h. seen_more l d.draft.items (item.Insn x) (f.placed l h);
        kept = f.kept;
        constants = constants_more (length d.strings) (length inside.strings) texts_more d.draft.constants f.constants;
        children = children_last b (inside.protos ++ p ∷ []) d.draft.children f.counts (puts.long (length inside.protos)) m
            (children_more b inside.protos (p ∷ []) d.draft.children f.counts inner) (newest p inside.protos);
        protos = shaped;
        behind = (is, tt);
      }

  captures_good : (p : Prototype) (k : Frame) (ks : List ℕ) (d : Emitter) → Full b (p ∷ []) k (captures (length ks)) d
      → Full b (p ∷ []) k Nothing (names.captures b ks d)
  captures_good p k [] d f = f
  captures_good p k (n ∷ ks) d f = captures_good p k ks (names.capture b n d) (which (names.register_in n d.draft.variables))
    where
      which : (o : Option ℕ) → Full b (p ∷ []) k (captures (length ks)) (names.capture_of b n o d)
      which (Some r) = insn b (p ∷ []) k (Captures (length ks)) (captures (length ks)) _ d (λ cs. refl) (λ low. insn_by _ _ refl refl refl refl refl refl) f
      which None = insn b (p ∷ []) k (Captures (length ks)) (captures (length ks)) _ d (λ cs. refl) (λ low. insn_by _ _ refl refl refl refl refl refl) f

  added_good : (p : Prototype) (k : Frame) (d : Emitter) → Full b (p ∷ []) k Nothing d → State b k Nothing (puts.with_prototype p d)
  unfolding with_prototype
  added_good p k d f = record {
    counts = f.counts;
    order = f.order;
    body = f.body;
    constants_few = f.constants_few;
    children_few = f.children_few;
    jumps = f.jumps;
    placed = f.placed;
    kept = f.kept;
    constants = f.constants;
    children = subst (λ ps. AreChildren b ps d.draft.children f.counts) (sym (append-nil (d.protos ++ p ∷ []))) f.children;
    protos = shaped_last b (length d.strings) [] d.protos p f.protos f.behind.0;
    behind = tt;
  }

  -- ---- the whole function

  grown_strings : (id : ℕ) (d inside : Emitter) → Grows (puts.with_draft (puts.blank id) d) inside → Prefix d.strings inside.strings
  unfolding with_draft
  grown_strings id d inside g = g.strings

  grown_protos : (id : ℕ) (d inside : Emitter) → Grows (puts.with_draft (puts.blank id) d) inside → Prefix d.protos inside.protos
  unfolding with_draft
  grown_protos id d inside g = g.protos

  pub func_good : (id params : ℕ) (vararg : Bool) (body : List StatCode) → grows.AllGoodStats body → Stats b false body
      → GoodFunc (code.func_run b id params vararg body)
  func_good id params vararg body grow h k to d f =
      let begun = puts.with_draft (puts.blank id) d in
      let d1 = code.prepared vararg params begun in
      let d2 = names.declare_all (names.first_at b id) 0 params d1 in
      let d3 = code.stats_run body params code.no_loop d2 in
      let d4 = puts.insn (i.Return 0 1) d3 in
      let k0 = begin vararg params in
      let grown : Grows begun d4 = grows.put _ begun _ (grows.stats_good body grow params code.no_loop begun d2 (grows.all_declared
      (names.first_at b id) 0 params begun d1 (grows.prepared_good b vararg params begun begun (grows.none begun)))) in
      let f1 = begun_good vararg params id d f.protos in
      let f2 = declared_good b k0 (names.first_at b id) 0 params d1 f1 in
      let f3 = stats_good b false body h k0 params code.no_loop d2 (λ e. cc) f2 in
      let f4 = insn b [] k0 Nothing Nothing (i.Return 0 1) d3 (λ cs. refl) (λ low. insn_by _ _ refl refl refl refl refl refl) f3 in
      let p = puts.done params vararg d4.draft in
      let ups = names.upvalues_at b d4.draft.func in
      let o2 = puts.with_child (length d4.protos) (puts.insn (i.NewClosure to (puts.short (length d.draft.children))) (puts.with_draft d.draft d4)) in
      let made = made_good k to p d d4 (grown_protos id d d4 grown) (grown_strings id d d4 grown) f4.protos (done_shaped vararg params d3 f4) f in
      added_good p k (names.captures b ups o2) (captures_good p k ups o2 made)
