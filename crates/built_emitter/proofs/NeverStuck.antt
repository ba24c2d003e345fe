-- No node that is built is stuck, where its parts are not: its names are bound to numbers, and its operations have results or stop. As
-- for the machine, it is shown of a node where it is shown of what follows.
use Rattle.std.proofs.Common.{◌≡◌, ℤ, List, sym, ap, ◌∙◌, ℕ, ◌<◌, ◌≤◌, [], ◌∷◌, length, Bool, true, false, Some, None, refl, arith, ◌++◌, subst, IsSome, Result, Ok, Err, nat_eq, if◌then◌else◌, zero, suc, ◌+ℤ◌, ◌≢◌, ◌-ℤ◌, ◌*ℤ◌, length-append, ⊎_elim}
use Rattle.std.specs.Prelude.{slice_set, not, slice_index_or, int_lt, int_le}
use Rattle.std.specs.Ordering.{int_eq}
use Rattle.std.specs.Fmt.{signed_decimal}
use Rattle.std.proofs.lemmas.List.{get_or-set_same, get_or-set_other, length-set}
use Rattle.std.proofs.lemmas.Bool.Decides.{eqb_tells}
use Rattle.std.proofs.Math.ListN.{get_or-append}
use Rattle.std.proofs.Math.Seq.{get_or-append_seam}
use Rattle.byte_text.specs.declared.fixed.StrId.{StrId}
use Rattle.whole_num.specs.declared.arithmetic.Stop.{Stop}
use Rattle.whole_num.specs.Whole.{within}
use Rattle.syntax_tree.specs.declared.tree.ExprKind.TheOpen as level
use Rattle.syntax_tree.specs.declared.tree.BinOp.TheVariants as op
use Rattle.syntax_tree.specs.declared.tree.BinOp.{BinOp}
use Rattle.syntax_tree.specs.declared.tree.Expr.{Expr}
use Rattle.syntax_tree.specs.declared.tree.ExprKind.{out-ExprKind}
use Rattle.syntax_tree.specs.declared.tree.Stat.{Stat}
use Rattle.syntax_tree.specs.declared.tree.StatKind.{out-StatKind}
use Rattle.built_values.specs.declared.value.Value.TheVariants as value
use Rattle.built_values.specs.declared.value.Value.{Value}
use Rattle.built_values.specs.declared.end.End.{End}
use Rattle.built_values.specs.declared.end.End.TheVariants.{Stuck, Stopped, Ended, Unfinished}
use Rattle.built_values.specs.Runs.{Ends, Stamped, Report, Goes, Shows, Charges}
use Rattle.built_values.specs.Operations.{Outcome, printed, equal, less, less_or_equal, as_value, sum, difference, product}
use Rattle.built_values.proofs.Runs.{one_report}
use Rattle.built_values.proofs.Together.{Comes, comes_by}
use Rattle.built_source.specs.Steps as source
use Rattle.built_source.specs.States.{Environment, Frame, LeftOperand, RightOperand, Continues, Restores, Focus, Evaluate, Give, Execute, ExecuteAll, Done, State, cell_of}
use Rattle.built_source.specs.Levels.{StatLevel}
use Rattle.built_source.specs.Runs.{start, SourceRun}
use Rattle.built_emitter.specs.Names.{names_after, names_beyond, register_of}
use Rattle.built_emitter.specs.Operations.{operation, unless}
use Rattle.built_emitter.proofs.Following.{opened}
use Rattle.built_emitter.proofs.NewestNames.{newest_register, newest_some}
use Rattle.built_emitter.proofs.Locals.{Since, since_on}

-- ---- runs that are not stuck

-- the rest of the run gives a report, and is not stuck
pub record Fine (left : ℕ) (s : State) : Type 0 where
  pub by : (spent : ℕ) (out : List (Stamped (List ℕ))) (notes : List source.Look) →
      (r : Report (List ℕ) source.Look) × Comes source.step left spent out notes s r × (r.end ≢ Stuck)

pub goes : (left : ℕ) (s s' : State) → source.step s ≡ Goes [] s' → Fine left s' → Fine left s
goes left s s' e f = record {
  by = λ spent out notes. let o = f.by spent out (notes ++ []) in (o.0, comes_by source.step left spent out notes s o.0 (Goes [] s') e o.1, o.2);
}

pub shows : (left : ℕ) (s s' : State) (event : List ℕ) → source.step s ≡ Shows [] event s' → Fine left s' → Fine left s
shows left s s' event e f = record {
  by = λ spent out notes. let o = f.by spent (out ++ record { turns = spent; event = event } ∷ []) (notes ++ []) in
      (o.0, comes_by source.step left spent out notes s o.0 (Shows [] event s') e o.1, o.2);
}

pub charges : (left : ℕ) (s s' : State) → source.step s ≡ Charges s' → ((fewer : ℕ) → left ≡ suc fewer → Fine fewer s') → Fine left s
charges zero s s' e f = record {
  by = λ spent out notes.
      let r : Report (List ℕ) source.Look = record { end = Unfinished; events = out; notes = notes } in
      (r, comes_by source.step 0 spent out notes s r (Charges s') e (0, refl), λ same. cc);
}
charges (suc left) s s' e f = record {
  by = λ spent out notes. let o = (f left refl).by (suc spent) out notes in
      (o.0, comes_by source.step (suc left) spent out notes s o.0 (Charges s') e o.1, o.2);
}

pub ends : (left : ℕ) (s : State) (end : End) → source.step s ≡ Ends [] end → end ≢ Stuck → Fine left s
ends left s end e ne = record {
  by = λ spent out notes.
      let r : Report (List ℕ) source.Look = record { end = end; events = out; notes = notes ++ [] } in
      (r, comes_by source.step left spent out notes s r (Ends [] end) e (0, refl), ne);
}

-- ---- cells that hold numbers

abbrev pub IsNumber : Value → Type 0
IsNumber v = (n : ℤ) × (v ≡ value.Number n)

abbrev pub AllNumbers : List Value → Type 0
AllNumbers cells = (c : ℕ) → c < length cells → IsNumber (slice_index_or cells c value.Nil)

-- the variables are these names, and each has a cell
pub data Bound (size : ℕ) : Environment → List StrId → Type 0 where
  none : Bound size [] []
  one : (x : StrId) (c : ℕ) (env : Environment) (names : List StrId) → c < size → Bound size env names → Bound size ((x, c) ∷ env) (x ∷ names)

pub bound_more : (size more : ℕ) (env : Environment) (names : List StrId) → size ≤ more → Bound size env names → Bound more env names
bound_more size more _ _ le Bound.none = Bound.none
bound_more size more _ _ le (Bound.one x c env names lt b) = Bound.one x c env names (omega (arith, lt, le)) (bound_more size more env names le b)

-- what the cells of a run hold, and its variables
pub record Sound (cells : List Value) (env : Environment) (names : List StrId) : Type 0 where
  pub numbers : AllNumbers cells
  pub bound : Bound (length cells) env names

pub found : (size : ℕ) (env : Environment) (names : List StrId) (x : StrId) → Bound size env names → IsSome (newest_register names x) →
    (c : ℕ) × (cell_of env x ≡ Some c) × (c < size)
found size _ _ x Bound.none h = cc
found size _ _ x (Bound.one y c env names lt b) h =
    by_test (nat_eq y.0 x.0) refl (λ g. found size env names x b g) h
  where
    by_test : (t : Bool) → nat_eq y.0 x.0 ≡ t → (IsSome (newest_register names x) → (d : ℕ) × (cell_of env x ≡ Some d) × (d < size)) →
        IsSome (if nat_eq y.0 x.0 then Some (length names) else newest_register names x) →
        (d : ℕ) × ((if nat_eq y.0 x.0 then Some c else cell_of env x) ≡ Some d) × (d < size)
    by_test true e later h = (c, ap (λ b. if b then Some c else cell_of env x) e, lt)
    by_test false e later h =
        let l = later (subst (λ b. IsSome (if b then Some (length names) else newest_register names x)) e h) in
        (l.0, ap (λ b. if b then Some c else cell_of env x) e ∙ l.1, l.2)

pub unbound : (size : ℕ) (env : Environment) (names : List StrId) (x : StrId) → Bound size env names → newest_register names x ≡ None → cell_of env x ≡ None
unbound size _ _ x Bound.none h = refl
unbound size _ _ x (Bound.one y c env names lt b) h =
    by_test (nat_eq y.0 x.0) refl (λ g. unbound size env names x b g) h
  where
    by_test : (t : Bool) → nat_eq y.0 x.0 ≡ t → (newest_register names x ≡ None → cell_of env x ≡ None) →
        (if nat_eq y.0 x.0 then Some (length names) else newest_register names x) ≡ None → (if nat_eq y.0 x.0 then Some c else cell_of env x) ≡ None
    by_test true e later h =
        let no : Some (length names) ≡ None = ap (λ b. if b then Some (length names) else newest_register names x) (sym e) ∙ h in cc
    by_test false e later h =
        ap (λ b. if b then Some c else cell_of env x) e ∙ later (ap (λ b. if b then Some (length names) else newest_register names x) (sym e) ∙ h)

pub numbers_append : (cells : List Value) (v : Value) → IsNumber v → AllNumbers cells → AllNumbers (cells ++ v ∷ [])
numbers_append cells v n all c lt =
    ⊎_elim
    (λ t. (n.0, ap (λ d. slice_index_or (cells ++ v ∷ []) d value.Nil) (sym t.1) ∙ get_or-append_seam cells v [] value.Nil ∙ n.1))
    (λ t. let ne = t.1 in
    let below : c < length cells = omega (arith, lt, length-append cells (v ∷ []), ne) in
    let there = all c below in (there.0, get_or-append cells (v ∷ []) value.Nil c below ∙ there.1))
    (eqb_tells (length cells) c)

pub numbers_set : (cells : List Value) (d : ℕ) (v : Value) → IsNumber v → AllNumbers cells → AllNumbers (slice_set cells d v)
numbers_set cells d v n all c lt =
    let below : c < length cells = omega (arith, lt, length-set cells d v) in
    ⊎_elim
    (λ t. (n.0, ap (λ q. slice_index_or (slice_set cells q v) c value.Nil) t.1 ∙ get_or-set_same cells c v value.Nil below ∙ n.1))
    (λ t. let there = all c below in (there.0, get_or-set_other cells d c v value.Nil (λ e. t.1 (sym e)) ∙ there.1))
    (eqb_tells d c)

-- ---- results

-- an operation of the form on two numbers gives a number, or stops
pub data Gives (o : Outcome) : Type 0 where
  number : (n : ℤ) → o ≡ Some (Ok (value.Number n)) → Gives o
  stops : (s : Stop) → o ≡ Some (Err s) → Gives o

gives : (r : Result ℤ Stop) (o : Outcome) → o ≡ Some (as_value r) → Gives o
gives (Ok n) o e = Gives.number n e
gives (Err s) o e = Gives.stops s e

operation_gives : (op : BinOp) (v w : ℤ) → IsSome (operation op 0 0 0) → Gives (source.result_of op (value.Number v) (value.Number w))
unfolding source.result_of sum difference product
operation_gives op.Add v w h = gives (within (v +ℤ w)) _ refl
operation_gives op.Sub v w h = gives (within (v -ℤ w)) _ refl
operation_gives op.Mul v w h = gives (within (v *ℤ w)) _ refl
operation_gives _ v w h = cc

comparison_gives : (op : BinOp) (v w : ℤ) → IsSome (unless op 0 0) →
    (b : Bool) × (source.result_of op (value.Number v) (value.Number w) ≡ Some (Ok (value.Boolean b)))
unfolding source.result_of equal less less_or_equal
comparison_gives op.Eq v w h = (int_eq v w, refl)
comparison_gives op.Ne v w h = (not (int_eq v w), refl)
comparison_gives op.Lt v w h = (int_lt v w, refl)
comparison_gives op.Le v w h = (int_le v w, refl)
comparison_gives op.Gt v w h = (int_lt w v, refl)
comparison_gives op.Ge v w h = (int_le w v, refl)
comparison_gives _ v w h = cc

pub printed_number : (n : ℤ) → printed (value.Number n) ≡ Some (signed_decimal n)
unfolding printed
printed_number n = refl

-- ---- expressions

abbrev pub FineAt : ℕ → Focus → List Frame → Environment → List Value → Type 0
FineAt left f k env cells = Fine left (record { focus = f; frames = k; env = env; cells = cells })

pub by_step : (left : ℕ) (f f' : Focus) (k k' : List Frame) (env env' : Environment) (cells cells' : List Value) →
    source.row f k env cells ≡ source.now f' k' env' cells' → FineAt left f' k' env' cells' → FineAt left f k env cells
by_step left f f' k k' env env' cells cells' e a = goes left _ _ e a

-- what is to be shown of the rest, where a number is given
abbrev pub WithNumber : ℕ → List Frame → Environment → List Value → Type 0
WithNumber left k env cells = (n : ℤ) → FineAt left (Give (value.Number n)) k env cells

-- a value is given, where these names are in scope
abbrev pub ValueFine : List StrId → Expr → Type 0
ValueFine names e =
    (left : ℕ) (k : List Frame) (env : Environment) (cells : List Value) → Sound cells env names → WithNumber left k env cells →
    FineAt left (Evaluate e) k env cells

-- a condition is answered
abbrev pub ConditionFine : List StrId → Expr → Type 0
ConditionFine names e =
    (left : ℕ) (k : List Frame) (env : Environment) (cells : List Value) → Sound cells env names →
    ((b : Bool) → FineAt left (Give (value.Boolean b)) k env cells) → FineAt left (Evaluate e) k env cells

pub number_fine : (names : List StrId) (e : Expr) (v : ℤ) → out-ExprKind e.kind ≡ level.Num v → ValueFine names e
number_fine names e v h left k env cells ok go =
    by_step left _ (Give (value.Number v)) k k env env cells cells (opened e (level.Num v) k env cells h) (go v)

pub name_fine : (names : List StrId) (e : Expr) (x : StrId) → out-ExprKind e.kind ≡ level.Name x → IsSome (register_of names x) →
    ValueFine names e
name_fine names e x h some left k env cells ok go =
    let l = found (length cells) env names x ok.bound (newest_some names x some) in
    let held = ok.numbers l.0 l.2 in
    by_step left _ (Give (value.Number held.0)) k k env env cells cells
    (opened e (level.Name x) k env cells h
    ∙ ap (λ o. source.named o x k env cells) l.1
    ∙ ap (λ v. source.now (Give v) k env cells) held.1)
    (go held.0)

operation_fine : (left : ℕ) (op : BinOp) (v w : ℤ) (k : List Frame) (env : Environment) (cells : List Value) →
    Gives (source.result_of op (value.Number v) (value.Number w)) → WithNumber left k env cells →
    FineAt left (Give (value.Number w)) (RightOperand op (value.Number v) ∷ k) env cells
operation_fine left op v w k env cells (Gives.number n e) go =
    by_step left _ (Give (value.Number n)) _ k env env cells cells (ap (λ o. source.give o k env cells) e) (go n)
operation_fine left op v w k env cells (Gives.stops s e) go =
    ends left _ (Stopped s) (ap (λ o. source.give o k env cells) e) (λ same. cc)

-- both operands are given
operands_fine : (names : List StrId) (e l r : Expr) (op : BinOp) → out-ExprKind e.kind ≡ level.Binary op l r → ValueFine names l →
    ValueFine names r → (left : ℕ) (k : List Frame) (env : Environment) (cells : List Value) → Sound cells env names →
    ((v w : ℤ) → FineAt left (Give (value.Number w)) (RightOperand op (value.Number v) ∷ k) env cells) →
    FineAt left (Evaluate e) k env cells
operands_fine names e l r op h first second left k env cells ok go =
    by_step left _ (Evaluate l) k (LeftOperand op r ∷ k) env env cells cells (opened e (level.Binary op l r) k env cells h)
    (first left (LeftOperand op r ∷ k) env cells ok
    (λ v. by_step left _ (Evaluate r) _ (RightOperand op (value.Number v) ∷ k) env env cells cells refl
    (second left (RightOperand op (value.Number v) ∷ k) env cells ok (λ w. go v w))))

pub result_fine : (names : List StrId) (e l r : Expr) (op : BinOp) → out-ExprKind e.kind ≡ level.Binary op l r →
    IsSome (operation op 0 0 0) → ValueFine names l → ValueFine names r → ValueFine names e
result_fine names e l r op h some first second left k env cells ok go =
    operands_fine names e l r op h first second left k env cells ok
    (λ v w. operation_fine left op v w k env cells (operation_gives op v w some) go)

pub comparison_fine : (names : List StrId) (e l r : Expr) (op : BinOp) → out-ExprKind e.kind ≡ level.Binary op l r →
    IsSome (unless op 0 0) → ValueFine names l → ValueFine names r → ConditionFine names e
comparison_fine names e l r op h some first second left k env cells ok go =
    operands_fine names e l r op h first second left k env cells ok
    (λ v w. let answer = comparison_gives op v w some in
    by_step left _ (Give (value.Boolean answer.0)) _ k env env cells cells (ap (λ o. source.give o k env cells) answer.1) (go answer.0))

-- ---- statements

-- what is to be shown of the rest, where statements are over: the variables have cells
abbrev pub FineAfter : ℕ → Environment → (names names' : List StrId) → List Frame → Type 0
FineAfter left env names names' k =
    (left' : ℕ) → left' ≤ left → (env' : Environment) (cells : List Value) → Sound cells env' names' → Since env' names' env names →
    FineAt left' Done k env' cells

abbrev pub FineAfterAll : ℕ → Environment → List StrId → List Frame → Type 0
FineAfterAll left env names k =
    (left' : ℕ) → left' ≤ left → (names' : List StrId) (env' : Environment) (cells : List Value) → Sound cells env' names' →
    Since env' names' env names → FineAt left' Done k env' cells

-- the same, where the variables are those from before
abbrev pub FineBack : ℕ → List StrId → Environment → List Frame → Type 0
FineBack left names env k =
    (left' : ℕ) → left' ≤ left → (cells : List Value) → Sound cells env names → FineAt left' Done k env cells

-- a statement is over
abbrev pub StatementFine : List StrId → Stat → Type 0
StatementFine names s =
    (left : ℕ) (k : List Frame) (env : Environment) (cells : List Value) → Sound cells env names →
    FineAfter left env names (names_after names s) k → FineAt left (Execute s) k env cells

-- some statements are over
abbrev pub StatementsFine : List StrId → List Stat → Type 0
StatementsFine names ss =
    (left : ℕ) (k : List Frame) (env : Environment) → FineAfterAll left env names k → (cells : List Value) → Sound cells env names →
    FineAt left (ExecuteAll ss) k env cells

-- a block is over, and its variables are forgotten
abbrev pub BlockFine : List StrId → List Stat → Type 0
BlockFine names ss =
    (left : ℕ) (k : List Frame) (env : Environment) → FineBack left names env k → (cells : List Value) → Sound cells env names →
    FineAt left (ExecuteAll ss) (Restores env ∷ k) env cells

-- a statement without a new local
pub keeping : (left : ℕ) (names : List StrId) (s : Stat) (l : StatLevel) (env : Environment) (k : List Frame) → out-StatKind s.kind ≡ l →
    names_beyond l names ≡ names → FineAfter left env names (names_after names s) k → FineBack left names env k
keeping left names s l env k opens e go left' le cells ok =
    let same : names_after names s ≡ names = ap (λ l. names_beyond l names) opens ∙ e in
    go left' le env cells (subst (λ ns. Sound cells env ns) (sym same) ok) (subst (λ ns. Since env ns env names) (sym same)
    (Since.unchanged env names))

-- ---- blocks

abbrev BoundTail : ℕ → Environment → List StrId → Type 0
BoundTail size (v ∷ env) (x ∷ names) = Bound size env names
BoundTail size _ _ = Unit {0}

bound_tail : (size : ℕ) (env : Environment) (names : List StrId) → Bound size env names → BoundTail size env names
bound_tail size _ _ Bound.none = tt
bound_tail size _ _ (Bound.one x c env names lt b) = b

-- the variables from before have their cells still
bound_before : (size : ℕ) (env : Environment) (names : List StrId) (env0 : Environment) (names0 : List StrId) →
    Since env names env0 names0 → Bound size env names → Bound size env0 names0
bound_before size _ _ _ _ (Since.unchanged env names) b = b
bound_before size _ _ _ _ (Since.one x c env names env0 names0 s) b =
    bound_before size env names env0 names0 s (bound_tail size ((x, c) ∷ env) (x ∷ names) b)

pub as_block : (names : List StrId) (ss : List Stat) → StatementsFine names ss → BlockFine names ss
as_block names ss runs left k env go cells ok =
    runs left (Restores env ∷ k) env
    (λ left1 le1 names1 env1 cells1 ok1 since.
    by_step left1 _ Done _ k env1 env cells1 cells1 refl
    (go left1 le1 cells1 (record {
      numbers = ok1.numbers;
      bound = bound_before (length cells1) env1 names1 env names since ok1.bound;
    })))
    cells ok

pub no_statements_fine : (names : List StrId) → StatementsFine names []
no_statements_fine names left k env go cells ok =
    by_step left _ Done k k env env cells cells refl (go left (omega arith) names env cells ok (Since.unchanged env names))

pub statements_fine : (names : List StrId) (s : Stat) (ss : List Stat) → StatementFine names s → StatementsFine (names_after names s) ss →
    StatementsFine names (s ∷ ss)
statements_fine names s ss first others left k env go cells ok =
    by_step left _ (Execute s) k (Continues ss ∷ k) env env cells cells refl
    (first left (Continues ss ∷ k) env cells ok
    (λ left1 le1 env1 cells1 ok1 since1.
    by_step left1 _ (ExecuteAll ss) _ k env1 env1 cells1 cells1 refl
    (others left1 k env1
    (λ left2 le2 names2 env2 cells2 ok2 since2. go left2 (omega (arith, le1, le2)) names2 env2 cells2 ok2 (since_on env2 names2 env1
    (names_after names s) env names since2 since1))
    cells1 ok1)))

-- ---- a whole script

abbrev pub HasReport : List Stat → ℕ → Type 0
HasReport stats n = (r : Report (List ℕ) source.Look) × SourceRun stats n r × (r.end ≢ Stuck)

pub script_fine : (stats : List Stat) → StatementsFine [] stats → (n : ℕ) → HasReport stats n
script_fine stats runs n =
    let fine = runs n [] []
    (λ left le names env cells ok since. ends left _ Ended refl (λ same. cc)) []
    (record { numbers = λ c lt. absurd (omega (arith, lt)); bound = Bound.none }) in
    fine.by 0 [] []

pub never_stuck : (stats : List Stat) (n : ℕ) → HasReport stats n → (r : Report (List ℕ) source.Look) → SourceRun stats n r → r.end ≢ Stuck
never_stuck stats n o r run =
    let same = one_report (List ℕ) source.Look State source.step (start stats) n o.0 r o.1 run in
    subst (λ q. q.end ≢ Stuck) same o.2
