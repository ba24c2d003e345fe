-- The machine follows the script: from states that fit, both come to one report. To show it of a node, it is enough to show it of what
-- follows: wherever the node's value is given, or its statement is over, and the machine stands behind the node's code.
use Rattle.op_words.specs.declared.insn.Insn.{Insn as Instruction}
use Rattle.std.proofs.Common.{◌≡◌, ℤ, List, map, Option, sym, ap, ◌∙◌, ℕ, ◌≤◌, [], ◌∷◌, length, Bool, true, false, Some, None, refl, arith, ◌+◌, ◌++◌, subst, pos, Ok, Err, ◌+ℤ◌}
use Rattle.std.proofs.lemmas.Option.{same_Some}
use Rattle.std.specs.Prelude.{not, option_map}
use Rattle.byte_text.specs.declared.fixed.StrId.{StrId}
use Rattle.syntax_tree.specs.declared.tree.ExprKind.TheOpen as level
use Rattle.syntax_tree.specs.declared.tree.ExprKind.TheViews as views
use Rattle.syntax_tree.specs.declared.tree.BinOp.TheVariants as op
use Rattle.syntax_tree.specs.declared.tree.BinOp.{BinOp}
use Rattle.syntax_tree.specs.declared.tree.Expr.{Expr}
use Rattle.syntax_tree.specs.declared.tree.ExprKind.{out-ExprKind}
use Rattle.syntax_tree.specs.declared.tree.Stat.{Stat}
use Rattle.syntax_tree.specs.declared.tree.StatKind.{out-StatKind}
use Rattle.op_words.specs.declared.insn.Insn.TheVariants as insn
use Rattle.op_words.specs.Encoding.{encoded}
use Rattle.op_words.specs.Decoding.{insn_at}
use Rattle.code_link.specs.declared.item.Item.TheVariants as item
use Rattle.code_link.specs.declared.item.Item.{Item}
use Rattle.code_link.specs.Linking.{jumping}
use Rattle.built_values.specs.declared.value.Value.TheVariants as value
use Rattle.built_values.proofs.Together as together
use Rattle.built_values.specs.declared.value.Value.{Value}
use Rattle.built_values.specs.declared.end.End.{End}
use Rattle.built_values.specs.declared.end.End.TheVariants.{Stuck, Stopped}
use Rattle.built_values.specs.Runs.{Ends}
use Rattle.built_values.specs.Operations.{Outcome, is_true, equal, less, less_or_equal}
use Rattle.built_source.specs.Steps as source
use Rattle.built_source.specs.States.{Environment, Frame, LeftOperand, RightOperand, Restores, Focus, Evaluate, Give, Execute, ExecuteAll, Done, State}
use Rattle.built_source.specs.Levels.{ExprLevel, StatLevel}
use Rattle.built_machine.specs.States as states
use Rattle.built_machine.specs.Steps as machine
use Rattle.built_machine.specs.declared.code.Constant.{Constant}
use Rattle.built_machine.specs.States.{Registers}
use Rattle.built_emitter.specs.Names.{names_after, names_beyond}
use Rattle.built_emitter.specs.Operations.{operation, unless}
use Rattle.built_emitter.specs.Code.{IsTestCode, IsNumberCode, IsValueCode}
use Rattle.built_emitter.proofs.Reading.{Reads, split, split_insns, ahead, same_place}
use Rattle.built_emitter.proofs.NewestNames.{as_newest}
use Rattle.built_emitter.proofs.Locals.{Locals, read, Temporaries, Fits, fits_push, fits_pop, fits_newest, Since}

-- ---- one level of a node

pub opened : (e : Expr) (l : ExprLevel) (k : List Frame) (env : Environment) (cells : List Value) → out-ExprKind e.kind ≡ l →
    source.row (Evaluate e) k env cells ≡ source.begin_expr l k env cells
opened e l k env cells h = ap (λ x. source.begin_expr x k env cells) h

pub begun : (s : Stat) (l : StatLevel) (k : List Frame) (env : Environment) (cells : List Value) → out-StatKind s.kind ≡ l →
    source.row (Execute s) k env cells ≡ source.begin_stat l k env cells
begun s l k env cells h = ap (λ x. source.begin_stat x k env cells) h

-- ---- comparisons

-- what a comparison answers
pub holds : BinOp → Value → Value → Option Bool
holds op.Eq v w = equal v w
holds op.Ne v w = option_map not (equal v w)
holds op.Lt v w = less v w
holds op.Le v w = less_or_equal v w
holds op.Gt v w = less w v
holds op.Ge v w = less_or_equal w v
holds _ v w = None

twice : (o : Option Bool) → o ≡ option_map not (option_map not o)
twice None = refl
twice (Some true) = refl
twice (Some false) = refl

source_compares : (op : BinOp) (l r : ℕ) (i : Instruction) (v w : Value) → unless op l r ≡ Some i → source.result_of op v w ≡ source.truth (holds op v w)
unfolding source.result_of holds
source_compares op.Eq l r i v w h = refl
source_compares op.Ne l r i v w h = refl
source_compares op.Lt l r i v w h = refl
source_compares op.Le l r i v w h = refl
source_compares op.Gt l r i v w h = refl
source_compares op.Ge l r i v w h = refl
source_compares _ l r i v w h = cc

machine_compares : (ks : List Constant) (op : BinOp) (l r : ℕ) (i : Instruction) (by : ℤ) (pc next : ℕ) (regs : Registers) →
    unless op l r ≡ Some i → machine.row ks (jumping i by) pc next regs ≡ machine.branch (option_map not (holds op (regs l) (regs r))) by pc next regs
unfolding holds
machine_compares ks op.Eq l r i by pc next regs h =
    ap (λ x. machine.row ks (jumping x by) pc next regs) (sym (same_Some _ i h))
machine_compares ks op.Ne l r i by pc next regs h =
    ap (λ x. machine.row ks (jumping x by) pc next regs) (sym (same_Some _ i h)) ∙ ap (λ o. machine.branch o by pc next regs) (twice (equal (regs l) (regs r)))
machine_compares ks op.Lt l r i by pc next regs h =
    ap (λ x. machine.row ks (jumping x by) pc next regs) (sym (same_Some _ i h))
machine_compares ks op.Le l r i by pc next regs h =
    ap (λ x. machine.row ks (jumping x by) pc next regs) (sym (same_Some _ i h))
machine_compares ks op.Gt l r i by pc next regs h =
    ap (λ x. machine.row ks (jumping x by) pc next regs) (sym (same_Some _ i h))
machine_compares ks op.Ge l r i by pc next regs h =
    ap (λ x. machine.row ks (jumping x by) pc next regs) (sym (same_Some _ i h))
machine_compares ks _ l r i by pc next regs h = cc

-- ---- operations

machine_operates : (ks : List Constant) (op : BinOp) (to l r : ℕ) (i : Instruction) (pc next : ℕ) (regs : Registers) →
    operation op to l r ≡ Some i → machine.row ks i pc next regs ≡ machine.give (source.result_of op (regs l) (regs r)) to next regs
unfolding source.result_of
machine_operates ks op.Add to l r i pc next regs h = ap (λ x. machine.row ks x pc next regs) (sym (same_Some _ i h))
machine_operates ks op.Sub to l r i pc next regs h = ap (λ x. machine.row ks x pc next regs) (sym (same_Some _ i h))
machine_operates ks op.Mul to l r i pc next regs h = ap (λ x. machine.row ks x pc next regs) (sym (same_Some _ i h))
machine_operates ks _ to l r i pc next regs h = cc

pub truth_of : (b : Bool) → is_true (value.Boolean b) ≡ b
unfolding is_true
truth_of b = refl

-- ---- the names in scope after a statement

-- where it is opened so
pub names_are : (names : List StrId) (s : Stat) (l : StatLevel) → out-StatKind s.kind ≡ l → names_after names s ≡ names_beyond l names
names_are names s l h = ap (λ l. names_beyond l names) h

module _ (words : List ℕ) (ks : List Constant) (place : ℕ → Option ℕ) where
  -- from these states both come to one report
  abbrev pub Alike : ℕ → State → states.State → Type 0
  Alike = together.Alike (List ℕ) source.Look machine.Look State states.State (λ look. 1) (λ look. 1) source.step (machine.step words ks)

  abbrev pub Same : ℕ → Focus → List Frame → Environment → List Value → ℕ → Registers → Type 0
  Same left f k env cells pc regs =
      Alike left (record { focus = f; frames = k; env = env; cells = cells }) (record { place = pc; registers = regs })

  pub by_source : (left : ℕ) (f f' : Focus) (k k' : List Frame) (env env' : Environment) (cells cells' : List Value) (pc : ℕ)
      (regs : Registers) → source.row f k env cells ≡ source.now f' k' env' cells' → Same left f' k' env' cells' pc regs →
      Same left f k env cells pc regs
  by_source left f f' k k' env env' cells cells' pc regs e a = together.source_goes _ _ _ _ _ _ _ _ _ e a

  pub by_machine : (left : ℕ) (f : Focus) (k : List Frame) (env : Environment) (cells : List Value) (pc next pc' : ℕ)
      (regs regs' : Registers) (i : Instruction) → insn_at words pc ≡ Some (i, next) →
      machine.row ks i pc next regs ≡ machine.at pc' regs' → Same left f k env cells pc' regs' → Same left f k env cells pc regs
  by_machine left f k env cells pc next pc' regs regs' i h e a =
      together.target_goes _ _ _ _ _ _ _ _ _ (ap (λ o. machine.act ks o pc regs) h ∙ e) a

  pub at_place : (left : ℕ) (f : Focus) (k : List Frame) (env : Environment) (cells : List Value) (pc pc' : ℕ) (regs : Registers) →
      pc ≡ pc' → Same left f k env cells pc' regs → Same left f k env cells pc regs
  at_place left f k env cells pc pc' regs e a = subst (λ p. Same left f k env cells p regs) (sym e) a

  pub both_end : (left : ℕ) (f : Focus) (k : List Frame) (env : Environment) (cells : List Value) (pc next : ℕ) (regs : Registers)
      (i : Instruction) (end : End) → source.row f k env cells ≡ Ends [] end → insn_at words pc ≡ Some (i, next) →
      machine.row ks i pc next regs ≡ Ends [] end → Same left f k env cells pc regs
  both_end left f k env cells pc next regs i end e h d =
      together.both_end _ _ _ _ _ _ _ _ _ e (ap (λ o. machine.act ks o pc regs) h ∙ d) refl

  -- ---- expressions

  -- what is to be shown of the rest, where a value is given
  abbrev pub WithValue : ℕ → Environment → List StrId → List Value → List Frame → ℕ → Type 0
  WithValue left env names temps k to =
      (left' : ℕ) → left' ≤ left → (v : Value) (cells : List Value) (regs : Registers) → Fits cells regs env names (v ∷ temps) →
      Same left' (Give v) k env cells to regs

  pub number_same : (names : List StrId) (to : ℕ) (v : ℤ) (is : List Instruction) → IsNumberCode ks to v is → (temps : List Value) →
      length names + length temps ≡ to → (from next : ℕ) → Reads words place from (map item.Insn is) next →
      (left : ℕ) (k : List Frame) (env : Environment) → WithValue left env names temps k next → (cells : List Value) (regs : Registers) →
      Fits cells regs env names temps → Same left (Give (value.Number v)) k env cells from regs
  number_same names to v _ IsNumberCode.small temps at from next r left k env go cells regs fits =
      by_machine left _ k env cells from _ _ regs _ _ r.0 refl
      (at_place left _ k env cells _ next _ r.1
      (go left (omega arith) _ cells _ (fits_push cells regs env names temps to _ at fits)))
  number_same names to v _ (IsNumberCode.large c h) temps at from next r left k env go cells regs fits =
      by_machine left _ k env cells from _ _ regs _ _ r.0 (ap (λ o. machine.load o to (from + length (encoded (insn.LoadK to c))) regs) h)
      (at_place left _ k env cells _ next _ r.1
      (go left (omega arith) _ cells _ (fits_push cells regs env names temps to _ at fits)))

  -- an operation on the two newest temporaries
  operate : (o : Outcome) (op : BinOp) (names : List StrId) (to : ℕ) (i : Instruction) → operation op to to (to + 1) ≡ Some i →
      (temps : List Value) → length names + length temps ≡ to → (from next : ℕ) → insn_at words from ≡ Some (i, next) →
      (left : ℕ) (k : List Frame) (env : Environment) → WithValue left env names temps k next →
      (v w : Value) (cells : List Value) (regs : Registers) → Fits cells regs env names (w ∷ v ∷ temps) → source.result_of op v w ≡ o →
      machine.row ks i from next regs ≡ machine.give o to next regs → Same left (Give w) (RightOperand op v ∷ k) env cells from regs
  operate None op names to i h temps at from next r left k env go v w cells regs fits e d =
      both_end left _ _ env cells from next regs i Stuck (ap (λ o. source.give o k env cells) e) r d
  operate (Some (Err s)) op names to i h temps at from next r left k env go v w cells regs fits e d =
      both_end left _ _ env cells from next regs i (Stopped s) (ap (λ o. source.give o k env cells) e) r d
  operate (Some (Ok z)) op names to i h temps at from next r left k env go v w cells regs fits e d =
      by_source left _ (Give z) _ k env env cells cells from regs (ap (λ o. source.give o k env cells) e)
      (by_machine left _ k env cells from next next regs _ i r d
      (go left (omega arith) z cells _ (fits_push cells regs env names temps to z at
      (fits_pop cells regs env names v temps (fits_pop cells regs env names w (v ∷ temps) fits)))))

  pub second_newest : (names : List StrId) (temps : List Value) (to : ℕ) → length names + length temps ≡ to →
      (v w : Value) (cells : List Value) (regs : Registers) (env : Environment) → Fits cells regs env names (w ∷ v ∷ temps) →
      (regs to ≡ v) × (regs (to + 1) ≡ w)
  second_newest names temps to at v w cells regs env fits = (
    ap regs (sym at) ∙ fits_newest cells regs env names v temps (fits_pop cells regs env names w (v ∷ temps) fits),
    ap regs
        (omega (arith, at)) ∙ fits_newest cells regs env names w (v ∷ temps) fits,
  )

  pub expr_same : (names : List StrId) (to : ℕ) (e : Expr) (is : List Instruction) → IsValueCode ks names to e is → (temps : List Value) →
      length names + length temps ≡ to → (from next : ℕ) → Reads words place from (map item.Insn is) next →
      (left : ℕ) (k : List Frame) (env : Environment) → WithValue left env names temps k next → (cells : List Value) (regs : Registers) →
      Fits cells regs env names temps → Same left (Evaluate e) k env cells from regs
  expr_same names _ _ _ (IsValueCode.number to e v is h code) temps at from next r left k env go cells regs fits =
      by_source left _ (Give (value.Number v)) k k env env cells cells from regs (opened e (level.Num v) k env cells (ap out-ExprKind h ∙ views.outs-Num v))
      (number_same names to v is code temps at from next r left k env go cells regs fits)
  expr_same names _ _ _ (IsValueCode.name to reg e x h there) temps at from next r left k env go cells regs fits =
      let l = read cells regs env names x reg fits.locals (as_newest names x (Some reg) there) in
      by_source left _ (Give (regs reg)) k k env env cells cells from regs
      (opened e (level.Name x) k env cells (ap out-ExprKind h ∙ views.outs-Name x)
      ∙ ap (λ o. source.named o x k env cells) l.found
      ∙ ap (λ v. source.now (Give v) k env cells) l.same)
      (by_machine left _ k env cells from _ _ regs _ _ r.0 refl
      (at_place left _ k env cells _ next _ r.1
      (go left (omega arith) (regs reg) cells _ (fits_push cells regs env names temps to (regs reg) at fits))))
  expr_same names _ _ _ (IsValueCode.result to e a b op i is js h i_is left_code right_code) temps at from next r left k env go cells regs fits =
      let p = split_insns words place is (js ++ i ∷ []) from next r in
      let q = split_insns words place js (i ∷ []) p.0 next p.2 in
      by_source left _ (Evaluate a) k (LeftOperand op b ∷ k) env env cells cells from regs
      (opened e (level.Binary op a b) k env cells (ap out-ExprKind h ∙ views.outs-Binary op a b))
      (expr_same names to a is left_code temps at from p.0 p.1 left (LeftOperand op b ∷ k) env
      (λ left1 le1 v cells1 regs1 fits1.
      by_source left1 _ (Evaluate b) _ (RightOperand op v ∷ k) env env cells1 cells1 p.0 regs1 refl
      (expr_same names (to + 1) b js right_code (v ∷ temps) (omega (arith, at)) p.0 q.0 q.1 left1 (RightOperand op v ∷ k) env
      (λ left2 le2 w cells2 regs2 fits2.
      let at2 = second_newest names temps to at v w cells2 regs2 env fits2 in
      at_here op names to i i_is temps at q.0 next q.2 left2 k env (λ left3 le3. go left3 (omega (arith, le1, le2, le3))) v w cells2 regs2 fits2 at2.0 at2.1)
      cells1 regs1 fits1))
      cells regs fits)
    where
      at_here : (op : BinOp) (names : List StrId) (to : ℕ) (i : Instruction) → operation op to to (to + 1) ≡ Some i →
          (temps : List Value) → length names + length temps ≡ to → (from next : ℕ) → Reads words place from (item.Insn i ∷ []) next →
          (left : ℕ) (k : List Frame) (env : Environment) → WithValue left env names temps k next →
          (v w : Value) (cells : List Value) (regs : Registers) → Fits cells regs env names (w ∷ v ∷ temps) → regs to ≡ v →
          regs (to + 1) ≡ w → Same left (Give w) (RightOperand op v ∷ k) env cells from regs
      at_here op names to i i_is temps at from next r left k env go v w cells regs fits x y =
          operate (source.result_of op v w) op names to i i_is temps at from next (r.0 ∙ ap (λ n. Some (i, n)) r.1) left k env go v w cells regs fits refl
          (machine_operates ks op to to (to + 1) i from next regs i_is
          ∙ ap (λ u. machine.give (source.result_of op u (regs (to + 1))) to next regs) x
          ∙ ap (λ u. machine.give (source.result_of op v u) to next regs) y)

  -- ---- conditions

  -- what is to be shown of the rest, where a condition is answered
  abbrev pub WithAnswer : ℕ → Environment → List StrId → List Frame → Bool → ℕ → Type 0
  WithAnswer left env names k b to =
      (left' : ℕ) → left' ≤ left → (cells : List Value) (regs : Registers) → Locals cells regs env names →
      Same left' (Give (value.Boolean b)) k env cells to regs

  -- a condition is answered here, and goes on there where it is false
  abbrev pub ConditionRuns : Expr → List StrId → (from to out : ℕ) → Type 0
  ConditionRuns cond names from to out =
      (left : ℕ) (k : List Frame) (env : Environment) → WithAnswer left env names k true to → WithAnswer left env names k false out →
      (cells : List Value) (regs : Registers) → Locals cells regs env names → Same left (Evaluate cond) k env cells from regs

  pub compare : (o : Option Bool) (op : BinOp) (names : List StrId) (i : Instruction) (from next out : ℕ) (by : ℤ) →
      insn_at words from ≡ Some (i, next) → pos (from + 1) +ℤ by ≡ pos out → from + 1 ≤ out →
      (left : ℕ) (k : List Frame) (env : Environment) → WithAnswer left env names k true next → WithAnswer left env names k false out →
      (v w : Value) (cells : List Value) (regs : Registers) → Locals cells regs env names → source.result_of op v w ≡ source.truth o →
      machine.row ks i from next regs ≡ machine.branch (option_map not o) by from next regs →
      Same left (Give w) (RightOperand op v ∷ k) env cells from regs
  compare None op names i from next out by r reaches le left k env on_true on_false v w cells regs ls e d =
      both_end left _ _ env cells from next regs i Stuck (ap (λ o. source.give o k env cells) e) r d
  compare (Some true) op names i from next out by r reaches le left k env on_true on_false v w cells regs ls e d =
      by_source left _ (Give (value.Boolean true)) _ k env env cells cells from regs (ap (λ o. source.give o k env cells) e)
      (by_machine left _ k env cells from next next regs regs i r d
      (on_true left (omega arith) cells regs ls))
  compare (Some false) op names i from next out by r reaches le left k env on_true on_false v w cells regs ls e d =
      by_source left _ (Give (value.Boolean false)) _ k env env cells cells from regs (ap (λ o. source.give o k env cells) e)
      (by_machine left _ k env cells from next out regs regs i r (d ∙ ahead by from out regs reaches le)
      (on_false left (omega arith) cells regs ls))

  pub condition_same : (names : List StrId) (label : ℕ) (cond : Expr) (items : List Item) → IsTestCode ks names label cond items →
      (from next out : ℕ) → Reads words place from items next → place label ≡ Some out → next ≤ out → ConditionRuns cond names from next out
  condition_same names label cond _ (IsTestCode.tests a b op i is js h i_is left_code right_code) from next out r there le left k env
      on_true on_false cells regs ls =
      let n = length names in
      let p = split words place (map item.Insn (is ++ js)) (item.Branch i label ∷ []) from next r in
      let q = split_insns words place is js from p.0 p.1 in
      let jump = p.2.0 in
      let target : jump.target ≡ out = same_place (place label) jump.target out jump.placed there in
      by_source left _ (Evaluate a) k (LeftOperand op b ∷ k) env env cells cells from regs
      (opened cond (level.Binary op a b) k env cells (ap out-ExprKind h ∙ views.outs-Binary op a b))
      (expr_same names n a is left_code [] (omega arith) from q.0 q.1 left (LeftOperand op b ∷ k) env
      (λ left1 le1 v cells1 regs1 fits1.
      by_source left1 _ (Evaluate b) _ (RightOperand op v ∷ k) env env cells1 cells1 q.0 regs1 refl
      (expr_same names (n + 1) b js right_code (v ∷ []) (omega arith) q.0 p.0 q.2 left1 (RightOperand op v ∷ k) env
      (λ left2 le2 w cells2 regs2 fits2.
      let at2 = second_newest names [] n (omega arith) v w cells2 regs2 env fits2 in
      compare (holds op v w) op names (jumping i jump.by) p.0 next out jump.by
      (jump.read ∙ ap (λ n. Some (jumping i jump.by, n)) p.2.1)
      (jump.reaches ∙ ap (λ n. pos n) target)
      (omega (arith, le, p.2.1))
      left2 k env
      (λ left3 le3. on_true left3 (omega (arith, le1, le2, le3)))
      (λ left3 le3. on_false left3 (omega (arith, le1, le2, le3)))
      v w cells2 regs2 fits2.locals
      (source_compares op n (n + 1) i v w i_is)
      (machine_compares ks op n (n + 1) i jump.by p.0 next regs2 i_is
      ∙ ap (λ u. machine.branch (option_map not (holds op u (regs2 (n + 1)))) jump.by p.0 next regs2) at2.0
      ∙ ap (λ u. machine.branch (option_map not (holds op v u)) jump.by p.0 next regs2) at2.1))
      cells1 regs1 fits1))
      cells regs (record { locals = ls; temporaries = Temporaries.none }))

  -- ---- statements

  -- what is to be shown of the rest, where a statement is over, or a block
  abbrev pub Afterwards : ℕ → Environment → List StrId → List StrId → List Frame → ℕ → Type 0
  Afterwards left env names names' k to =
      (left' : ℕ) → left' ≤ left → (env' : Environment) (cells : List Value) (regs : Registers) → Locals cells regs env' names' →
      Since env' names' env names → Same left' Done k env' cells to regs

  -- the same, where the variables are those from before it
  abbrev pub Back : ℕ → Environment → List StrId → List Frame → ℕ → Type 0
  Back left env names k to =
      (left' : ℕ) → left' ≤ left → (cells : List Value) (regs : Registers) → Locals cells regs env names → Same left' Done k env cells to regs

  -- a block that is entered here is over there
  abbrev pub BlockRuns : List Stat → List StrId → (from to : ℕ) → Type 0
  BlockRuns ss names from to =
      (left : ℕ) (k : List Frame) (env : Environment) → Back left env names k to → (cells : List Value) (regs : Registers) →
      Locals cells regs env names → Same left (ExecuteAll ss) (Restores env ∷ k) env cells from regs

  pub unchanged : (left : ℕ) (env : Environment) (names : List StrId) (s : Stat) (k : List Frame) (to : ℕ) → names_after names s ≡ names →
      Afterwards left env names (names_after names s) k to → Back left env names k to
  unchanged left env names s k to e go left' le cells regs ls =
      go left' le env cells regs (subst (λ ns. Locals cells regs env ns) (sym e) ls) (subst (λ ns. Since env ns env names) (sym e) (Since.unchanged env names))
