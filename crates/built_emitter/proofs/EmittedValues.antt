-- The code of values, piece by piece.
use Rattle.std.proofs.Common.{◌≡◌, ℕ, ℤ, pos, ◌+◌, ◌-◌, ◌<◌, List, [], ◌∷◌, ◌++◌, length, map, Some, IsSome, Result, OnOk, sym, ap, ◌∙◌, subst, arith}
use Rattle.std.specs.Prelude.{slice_get}
use Rattle.std.proofs.lemmas.List.{map-append}
use Rattle.std.proofs.lemmas.Option.{same_Some}
use Rattle.std.proofs.lemmas.Result.{on_ok_weaker}
use Rattle.resource.specs.declared.memory.OutOfMemory.{OutOfMemory}
use Rattle.byte_text.specs.declared.fixed.StrId.{StrId}
use Rattle.syntax_tree.specs.declared.bindings.Bindings.{Bindings}
use Rattle.syntax_tree.specs.declared.tree.BinOp.{BinOp}
use Rattle.syntax_tree.specs.declared.tree.BinOp.TheVariants as op
use Rattle.syntax_tree.specs.declared.tree.Expr.{Expr}
use Rattle.syntax_tree.specs.declared.tree.ExprKind as expr
use Rattle.op_words.specs.declared.insn.Insn.{Insn}
use Rattle.op_words.specs.declared.insn.Insn.TheVariants as insn
use Rattle.code_link.specs.declared.item.Item.TheVariants as item
use Rattle.code_link.specs.Labels.{word_count}
use Rattle.built_machine.specs.declared.code.Constant.TheVariants as constant
use Rattle.syntax_tree.specs.Limits.{most_registers}
use Rattle.built_emitter.specs.declared.draft.Draft.{Draft}
use Rattle.built_emitter.specs.Names.{register_of}
use Rattle.built_emitter.specs.Operations.{operation}
use Rattle.built_emitter.specs.Form.{IsValue}
use Rattle.built_emitter.specs.Size.{expr_words}
use Rattle.built_emitter.specs.Code.{IsNumberCode, IsValueCode}
use Rattle.built_emitter.specs.Emitted.{Appends, EmitsNumber, EmitsValue}
use Rattle.built_emitter.proofs.TreeForms.{words_of_number, words_of_name, words_of_result, operands}
use Rattle.built_emitter.proofs.ItemLists.{extends_same, extends_on, constant_stays, slice_get_seam, appends_on, appends_most}

-- instructions behind one another
pub appends_insns : (a b c : Draft) (m n : ℕ) (is js : List Insn) → Appends a b m (map item.Insn is) → Appends b c n (map item.Insn js) →
    Appends a c (m + n) (map item.Insn (is ++ js))
appends_insns a b c m n is js p q =
    subst (Appends a c (m + n)) (sym (map-append item.Insn is js)) (appends_on a b c m n (map item.Insn is) (map item.Insn js) p q)

small_emitted : (old new : Draft) (to : ℕ) (v : ℤ) → new.labels ≡ old.labels → Appends old new 1 (item.Insn (insn.LoadN to v) ∷ []) → EmitsNumber to v old new
small_emitted old new to v l p = record {
  insns = insn.LoadN to v ∷ [];
  items = p;
  labels = l;
  code = λ ks more e. IsNumberCode.small;
}

large_emitted : (old mid new : Draft) (to : ℕ) (v : ℤ) → mid.items ≡ old.items →
    mid.constants.items ≡ old.constants.items ++ constant.Number v ∷ [] → new.constants ≡ mid.constants → new.labels ≡ old.labels →
    Appends mid new 1 (item.Insn (insn.LoadK to (pos (length old.constants.items))) ∷ []) → EmitsNumber to v old new
large_emitted old mid new to v w c h l p =
    let same : new.constants.items ≡ old.constants.items ++ constant.Number v ∷ [] = ap (λ x. x.items) h ∙ c in
    record {
      insns = insn.LoadK to (pos (length old.constants.items)) ∷ [];
      items = record {
        appended = p.appended ∙ ap (λ x. x.items ++ item.Insn (insn.LoadK to (pos (length old.constants.items))) ∷ []) w;
        fit = p.fit;
        words = p.words;
        constants = record { more = constant.Number v ∷ []; appended = same; few = omega arith };
      };
      labels = l;
      code = λ ks more e. IsNumberCode.large (pos (length old.constants.items))
          (constant_stays new.constants.items ks more (length old.constants.items) (constant.Number v) e
          (ap (λ l. slice_get l (length old.constants.items)) same ∙ slice_get_seam old.constants.items [] (constant.Number v)));
    }

pub emits_small : (r : Result (Unit {0}) OutOfMemory) (old new : Draft) (to : ℕ) (v w : ℤ) → w ≡ v → new.labels ≡ old.labels →
    OnOk r (Appends old new 1 (item.Insn (insn.LoadN to w) ∷ [])) → OnOk r (EmitsNumber to v old new)
emits_small r old new to v w e l p =
    on_ok_weaker r (λ q. small_emitted old new to v l (subst (λ x. Appends old new 1 (item.Insn (insn.LoadN to x) ∷ [])) e q)) p

pub emits_large : (r : Result (Unit {0}) OutOfMemory) (old mid new : Draft) (to : ℕ) (v k : ℤ) → k ≡ pos (length old.constants.items) →
    mid.items ≡ old.items → mid.constants.items ≡ old.constants.items ++ constant.Number v ∷ [] → mid.labels ≡ old.labels →
    new.constants ≡ mid.constants → new.labels ≡ mid.labels → OnOk r (Appends mid new 1 (item.Insn (insn.LoadK to k) ∷ [])) →
    OnOk r (EmitsNumber to v old new)
emits_large r old mid new to v k e w c l h n p =
    on_ok_weaker r (λ q. large_emitted old mid new to v w c h (n ∙ l) (subst (λ x. Appends mid new 1 (item.Insn (insn.LoadK to x) ∷ [])) e q)) p

of_number : (old new : Draft) (names : List StrId) (to : ℕ) (e : Expr) (v : ℤ) → e.kind ≡ expr.Num v → EmitsNumber to v old new → EmitsValue names to e old new
of_number old new names to e v k p = record {
  insns = p.insns;
  items = appends_most old new 1 (expr_words e) (map item.Insn p.insns) (omega (arith, words_of_number e v k)) p.items;
  labels = p.labels;
  code = λ ks more x. IsValueCode.number to e v p.insns k (p.code ks more x);
}

of_name : (old new : Draft) (names : List StrId) (to from : ℕ) (e : Expr) (x : StrId) → e.kind ≡ expr.Name x →
    register_of names x ≡ Some from → new.labels ≡ old.labels → Appends old new 1 (item.Insn (insn.Move to from) ∷ []) → EmitsValue names to e old new
of_name old new names to from e x k r l p = record {
  insns = insn.Move to from ∷ [];
  items = appends_most old new 1 (expr_words e) (item.Insn (insn.Move to from) ∷ []) (omega (arith, words_of_name e x k)) p;
  labels = l;
  code = λ ks more y. IsValueCode.name to from e x k r;
}

one_word : (op : BinOp) (to left right : ℕ) (i : Insn) → operation op to left right ≡ Some i → word_count (item.Insn i ∷ []) ≡ 1
one_word op.Add to left right i h = ap (λ x. word_count (item.Insn x ∷ [])) (sym (same_Some _ i h))
one_word op.Sub to left right i h = ap (λ x. word_count (item.Insn x ∷ [])) (sym (same_Some _ i h))
one_word op.Mul to left right i h = ap (λ x. word_count (item.Insn x ∷ [])) (sym (same_Some _ i h))
one_word _ to left right i h = cc

of_result : (c0 c1 c2 c3 : Draft) (names : List StrId) (to : ℕ) (e a b : Expr) (op : BinOp) (i : Insn) → e.kind ≡ expr.Binary op a b →
    operation op to to (to + 1) ≡ Some i → EmitsValue names to a c0 c1 → EmitsValue names (to + 1) b c1 c2 → c3.constants ≡ c2.constants →
    c3.labels ≡ c2.labels → Appends c2 c3 (word_count (item.Insn i ∷ [])) (item.Insn i ∷ []) → EmitsValue names to e c0 c3
of_result c0 c1 c2 c3 names to e a b op i k o p q h l r =
    let last = extends_same c2.constants.items c3.constants.items 0 (ap (λ c. c.items) h) in
    let w = word_count (item.Insn i ∷ []) in
    let right = appends_insns c1 c2 c3 (expr_words b) w q.insns (i ∷ []) q.items r in
    record {
      insns = p.insns ++ (q.insns ++ i ∷ []);
      items = appends_most c0 c3 (expr_words a + (expr_words b + w)) (expr_words e) _
          (omega (arith, words_of_result e a b op k, one_word op to to (to + 1) i o))
          (appends_insns c0 c1 c3 (expr_words a) (expr_words b + w) p.insns (q.insns ++ i ∷ []) p.items right);
      labels = l ∙ q.labels ∙ p.labels;
      code = λ ks more x. IsValueCode.result to e a b op i p.insns q.insns k o
          (p.code ks _ (extends_on _ _ _ _ _ q.items.constants (extends_on _ _ _ _ _ last x))) (q.code ks _ (extends_on _ _ _ _ _ last x));
    }

pub emits_of_number : (r : Result (Unit {0}) OutOfMemory) (old new : Draft) (names : List StrId) (to : ℕ) (e : Expr) (v : ℤ) →
    e.kind ≡ expr.Num v → OnOk r (EmitsNumber to v old new) → OnOk r (EmitsValue names to e old new)
emits_of_number r old new names to e v k p = on_ok_weaker r (of_number old new names to e v k) p

pub emits_of_name : (r : Result (Unit {0}) OutOfMemory) (old new : Draft) (names : List StrId) (to from : ℕ) (e : Expr) (x : StrId) →
    e.kind ≡ expr.Name x → register_of names x ≡ Some from → new.labels ≡ old.labels →
    OnOk r (Appends old new 1 (item.Insn (insn.Move to from) ∷ [])) → OnOk r (EmitsValue names to e old new)
emits_of_name r old new names to from e x k g l p =
    on_ok_weaker r (λ q. of_name old new names to from e x k g l q) p

pub emits_of_result : (r : Result (Unit {0}) OutOfMemory) (c0 c1 c2 c3 : Draft) (names : List StrId) (to : ℕ) (e a b : Expr) (op : BinOp)
    (i : Insn) → e.kind ≡ expr.Binary op a b → operation op to to (to + 1) ≡ Some i → EmitsValue names to a c0 c1 →
    EmitsValue names (to + 1) b c1 c2 → c3.constants ≡ c2.constants → c3.labels ≡ c2.labels →
    OnOk r (Appends c2 c3 (word_count (item.Insn i ∷ [])) (item.Insn i ∷ [])) → OnOk r (EmitsValue names to e c0 c3)
emits_of_result r c0 c1 c2 c3 names to e a b op i k o p q h l s =
    on_ok_weaker r (λ x. of_result c0 c1 c2 c3 names to e a b op i k o p q h l x) s

-- ---- registers
pub second_register : (b : Bindings) (to : ℕ) (e l r : Expr) (op : BinOp) → IsValue b (most_registers - to) e → e.kind ≡ expr.Binary op l r → to < 255
second_register b to e l r op f k = omega (arith, (operands b (most_registers - to) e l r op f k).room)

pub known_operation : (b : Bindings) (to : ℕ) (e l r : Expr) (op : BinOp) → IsValue b (most_registers - to) e → e.kind ≡ expr.Binary op l r →
    IsSome (operation op 0 0 0)
known_operation b to e l r op f k = (operands b (most_registers - to) e l r op f k).operation
