-- The code of statements, piece by piece.
use Rattle.std.proofs.Common.{◌≡◌, List, map, sym, ap, ◌∙◌, ℕ, ◌<◌, ◌≤◌, [], ◌∷◌, length, Some, arith, ◌+◌, ◌++◌, subst, ◌^◌, Result, Ok, Err, OnOk}
use Rattle.std.specs.Prelude.{IsTrue}
use Rattle.std.proofs.lemmas.Option.{same_Some}
use Rattle.std.proofs.lemmas.Result.{on_ok_weaker}
use Rattle.resource.specs.declared.memory.OutOfMemory.{OutOfMemory}
use Rattle.byte_text.specs.declared.fixed.StrId.{StrId}
use Rattle.syntax_tree.specs.declared.tree.ExprKind as expr
use Rattle.syntax_tree.specs.declared.tree.BinOp.TheVariants as op
use Rattle.syntax_tree.specs.declared.tree.BinOp.{BinOp}
use Rattle.syntax_tree.specs.declared.tree.Expr.{Expr}
use Rattle.op_words.specs.declared.insn.Insn.{Insn}
use Rattle.code_link.specs.declared.item.Item.TheVariants as item
use Rattle.code_link.specs.declared.item.Item.{Item}
use Rattle.code_link.specs.Labels.{is_jump, word_count}
use Rattle.built_values.specs.Globals.{print_name}
use Rattle.built_machine.specs.declared.code.Constant.TheVariants as constant
use Rattle.built_machine.specs.declared.code.Constant.{Constant}
use Rattle.built_emitter.specs.Operations.{unless}
use Rattle.built_emitter.specs.Size.{expr_words}
use Rattle.built_emitter.specs.declared.draft.Draft.{Draft}
use Rattle.built_emitter.specs.Code.{IsTestCode}
use Rattle.built_emitter.specs.Emitted.{HasLabels, Appends, NamesPrint, Emits, EmitsInsns, EmitsValue, EmitsTest}
use Rattle.built_emitter.proofs.TreeForms.{words_of_result}
use Rattle.built_emitter.proofs.LabelRanges.{labels_insns, labels_on, labels_branch}
use Rattle.built_emitter.proofs.ItemLists.{extends_same, extends_on, length_extended, constant_stays, appends_on, appends_most, appends_from}
use Rattle.built_emitter.proofs.EmittedValues.{appends_insns}

pub on_ok : {P : Type 0} (r : Result (Unit {0}) OutOfMemory) → P → OnOk r P
on_ok (Ok u) p = p
on_ok (Err e) p = tt

-- room for so many constants and labels more, in a draft that names `print`
pub record IsReady (code : Draft) (n : ℕ) : Type 0 where
  pub room : length code.constants.items + n ≤ 2 ^ 15
  pub labels : code.labels + n ≤ 2 ^ 15
  pub print : NamesPrint code

pub ready_on : (a b : Draft) (all m k n : ℕ) (is : List Item) → IsReady a all → Appends a b m is → b.labels ≤ a.labels + k → m + n ≤ all →
    k + n ≤ all → IsReady b n
ready_on a b all m k n is r p l le le' = record {
  room = omega (arith, r.room, length_extended a.constants.items b.constants.items m p.constants);
  labels = omega (arith, r.labels);
  print = constant_stays a.constants.items b.constants.items m 0 (constant.Text print_name) p.constants r.print;
}

-- ---- conditions
two_words : (op : BinOp) (left right : ℕ) (i : Insn) → unless op left right ≡ Some i → word_count (item.Insn i ∷ []) ≡ 2
two_words op.Eq left right i h = ap (λ x. word_count (item.Insn x ∷ [])) (sym (same_Some _ i h))
two_words op.Ne left right i h = ap (λ x. word_count (item.Insn x ∷ [])) (sym (same_Some _ i h))
two_words op.Lt left right i h = ap (λ x. word_count (item.Insn x ∷ [])) (sym (same_Some _ i h))
two_words op.Le left right i h = ap (λ x. word_count (item.Insn x ∷ [])) (sym (same_Some _ i h))
two_words op.Gt left right i h = ap (λ x. word_count (item.Insn x ∷ [])) (sym (same_Some _ i h))
two_words op.Ge left right i h = ap (λ x. word_count (item.Insn x ∷ [])) (sym (same_Some _ i h))
two_words _ left right i h = cc

is_test : (op : BinOp) (left right : ℕ) (i : Insn) → unless op left right ≡ Some i → IsTrue (is_jump i)
is_test op.Eq left right i h = ap is_jump (sym (same_Some _ i h))
is_test op.Ne left right i h = ap is_jump (sym (same_Some _ i h))
is_test op.Lt left right i h = ap is_jump (sym (same_Some _ i h))
is_test op.Le left right i h = ap is_jump (sym (same_Some _ i h))
is_test op.Gt left right i h = ap is_jump (sym (same_Some _ i h))
is_test op.Ge left right i h = ap is_jump (sym (same_Some _ i h))
is_test _ left right i h = cc

of_test : (c0 c1 c2 c3 : Draft) (names : List StrId) (label : ℕ) (cond a b : Expr) (op : BinOp) (i : Insn) →
    cond.kind ≡ expr.Binary op a b → unless op (length names) (length names + 1) ≡ Some i → label < c0.labels →
    EmitsValue names (length names) a c0 c1 → EmitsValue names (length names + 1) b c1 c2 → c3.constants ≡ c2.constants →
    c3.labels ≡ c2.labels → Appends c2 c3 (word_count (item.Branch i label ∷ [])) (item.Branch i label ∷ []) → EmitsTest names label cond c0 c3
of_test c0 c1 c2 c3 names label cond a b op i k u lt p q last l r =
    let tail = extends_same c2.constants.items c3.constants.items 0 (ap (λ c. c.items) last) in
    let same : c3.labels ≡ c0.labels = l ∙ q.labels ∙ p.labels in
    let insns = p.insns ++ q.insns in
    let values = appends_insns c0 c1 c2 (expr_words a) (expr_words b) p.insns q.insns p.items q.items in
    let jump = item.Branch i label ∷ [] in
    record {
      items = map item.Insn insns ++ jump;
      appends = appends_most c0 c3 (expr_words a + expr_words b + word_count jump) (expr_words cond + 1) (map item.Insn insns ++ jump)
          (omega (arith, words_of_result cond a b op k, two_words op (length names) (length names + 1) i u))
          (appends_on c0 c2 c3 (expr_words a + expr_words b) (word_count jump) (map item.Insn insns) jump values r);
      labels = subst (λ n. HasLabels c0.labels n (map item.Insn insns ++ jump)) (sym same)
          (labels_on c0.labels c0.labels c0.labels (map item.Insn insns) jump (labels_insns c0.labels insns)
          (labels_branch c0.labels label i (is_test op (length names) (length names + 1) i u) lt));
      few = omega arith;
      code = λ ks more x. IsTestCode.tests a b op i p.insns q.insns k u
          (p.code ks _ (extends_on _ _ _ _ _ q.items.constants (extends_on _ _ _ _ _ tail x))) (q.code ks _ (extends_on _ _ _ _ _ tail x));
    }

pub emits_of_test : (o : Result (Unit {0}) OutOfMemory) (c0 c1 c2 c3 : Draft) (names : List StrId) (label left : ℕ) (cond a b : Expr)
    (op : BinOp) (i : Insn) → cond.kind ≡ expr.Binary op a b → left ≡ length names → unless op left (left + 1) ≡ Some i →
    label < c0.labels → EmitsValue names left a c0 c1 → EmitsValue names (left + 1) b c1 c2 → c3.constants ≡ c2.constants →
    c3.labels ≡ c2.labels → OnOk o (Appends c2 c3 (word_count (item.Branch i label ∷ [])) (item.Branch i label ∷ [])) →
    OnOk o (EmitsTest names label cond c0 c3)
emits_of_test o c0 c1 c2 c3 names label left cond a b op i k e u lt p q last l s =
    on_ok_weaker o
    (λ v. of_test c0 c1 c2 c3 names label cond a b op i k (subst (λ n. unless op n (n + 1) ≡ Some i) e u) lt
    (subst (λ n. EmitsValue names n a c0 c1) e p) (subst (λ n. EmitsValue names (n + 1) b c1 c2) e q) last l v)
    s

-- ---- statements of instructions alone
pub of_insns : (c0 c1 : Draft) (m n : ℕ) (P : List Constant → List Insn → Type 0) (Q : List Constant → List Item → Type 0) → m ≤ n →
    ((ks : List Constant) (is : List Insn) → P ks is → Q ks (map item.Insn is)) → EmitsInsns c0 c1 m P → Emits c0 c1 n n Q
of_insns c0 c1 m n P Q le to p = record {
  items = map item.Insn p.insns;
  appends = appends_most c0 c1 m n (map item.Insn p.insns) le p.items;
  labels = subst (λ l. HasLabels c0.labels l (map item.Insn p.insns)) (sym p.labels) (labels_insns c0.labels p.insns);
  few = omega (arith, p.labels);
  code = λ ks more x. to ks p.insns (p.code ks more x);
}

-- ---- branches
-- two labels more
pub two_labels : (c0 c1 c2 : Draft) → c1 ≡ record c0 { labels = c0.labels + 1 } → c2 ≡ record c1 { labels = c1.labels + 1 } →
    c2 ≡ record c0 { labels = c0.labels + 2 }
two_labels c0 c1 c2 e f =
    let two : c0.labels + 1 + 1 ≡ c0.labels + 2 = omega arith in
    f ∙ ap (λ (c : Draft). record c { labels = c.labels + 1 }) e ∙ ap (λ (n : ℕ). record c0 { labels = n }) two

-- ---- room for the blocks
pub arm_ready : (c0 c2 : Draft) (names : List StrId) (label n : ℕ) (cond : Expr) →
    EmitsTest names label cond (record c0 { labels = c0.labels + n }) c2 → (all k : ℕ) → IsReady c0 all → expr_words cond + 1 + k ≤ all →
    n + k ≤ all → IsReady c2 k
arm_ready c0 c2 names label n cond t all k r le le' =
    ready_on c0 c2 all (expr_words cond + 1) n k t.items r (appends_from c0 c2 (c0.labels + n) (expr_words cond + 1) t.items t.appends)
    (omega (arith, t.few)) le le'
