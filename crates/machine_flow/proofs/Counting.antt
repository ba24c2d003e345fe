-- Loops over numbers.
use Rattle.std.proofs.Common.{◌≡◌, ℕ, ◌+◌, ℤ, pos, ◌+ℤ◌, Bool, true, false, not, cond, List, [], Some, None, Result, Ok, Err, refl, sym, ◌∙◌, ap, arith}
use Rattle.std.proofs.lemmas.Int.{ints}
use Rattle.std.specs.Int.RustNames.{int_lt, int_le}
use Rattle.whole_num.specs.Whole.{IsWhole, is_whole, within}
use Rattle.whole_num.specs.declared.arithmetic.Stop.TheVariants.{OutOfRange}
use Rattle.value_model.specs.declared.error.LoopBound.TheVariants.{Initial, Limit, Step}
use Rattle.value_model.specs.declared.event.Reply.{Reply}
use Rattle.value_model.specs.declared.value.Value.TheVariants as value
use Rattle.value_model.specs.Loops.{Bounds, Range as WithRange, Refused, Halted, bound, bounds, goes_on}
use Rattle.value_model.specs.Errors.{RunError, ForBound}
use Rattle.value_model.specs.Metamethods.{as_number}
use Rattle.value_model.specs.Parts.{meant}
use Rattle.value_model.specs.Values as m
use Rattle.value_model.specs.Waits.{Stopped}
use Rattle.whole_num.specs.declared.arithmetic.Stop.{Stop}
use Rattle.bounded_runs.specs.Runs.{Goes, Charges, Ends}
use Rattle.luau_tables.specs.declared.globals.LibWorld.{LibWorld}
use Rattle.call_frames.specs.Stacks.{StackView}
use Rattle.machine_meaning.specs.States as machine
use Rattle.machine_meaning.specs.States.{Run, Focus, Fault, Inside, State, value_in, set}
use Rattle.machine_meaning.specs.Moves.{Row, inside, on, go, now, branch}
use Rattle.machine_meaning.specs.Effects.{bounds_in, with_bounds, with_generator, begun, again, added}
use Rattle.machine_meaning.specs.Instructions.{row}
use Rattle.op_words.specs.Chunks.{ChunkOf}
use Rattle.op_words.specs.declared.insn.Insn.TheVariants.{ForNLoop}
use Rattle.machine_code.specs.declared.code.Code.{Code}
use Rattle.machine_world.specs.Parts.{Becomes, changed, part, read_of}
use Rattle.machine_world.specs.Rows.{MakesCharged}
use Rattle.machine_world.specs.Sound.{Runs}
use Rattle.machine_world.proofs.Here.{Here, here, row_here, read_here, number_is}
use Rattle.machine_flow.specs.declared.counts.Failure.{Failure}
use Rattle.machine_flow.specs.declared.counts.Failure.TheVariants as failure
use Rattle.machine_flow.proofs.Steps.{three_place}
use Rattle.machine_flow.proofs.Rows.{goes_back}
use Rattle.machine_flow.specs.Counts.{Fails, failed, bounded, bounds_at, in_order, meant_bounds, no_bounds, further}

-- ---- the bounds are read

-- what is there is read
pub read_back : {A : Type 0} {w : LibWorld} {code : Code} {s : StackView} {replies : List Reply} (h : Here w code s replies) (none : A) (read : Inside → A) (x : Focus) (v : A) → v ≡ read (inside h.frame h.world) → v ≡ read_of none read (part w code s x replies)
read_back h none read x v e = e ∙ sym (ap (λ (t : State). read_of none read t) (h.is x))

abbrev pub Bound : (m.Value → (ℤ → Bounds) → Bounds) → m.Value → Result ℤ Failure → Type 0
Bound reads v q = (next : ℤ → Bounds) → reads v next ≡ bounded q next

abbrev pub first_bound : m.Value → (ℤ → Bounds) → Bounds
first_bound v next = bound Initial v (as_number v) next

abbrev pub limit_bound : m.Value → (ℤ → Bounds) → Bounds
limit_bound v next = bound Limit v (as_number v) next

abbrev pub step_bound : m.Value → (ℤ → Bounds) → Bounds
step_bound v next = bound Step v (as_number v) next

pub first_fails : (start limit step : m.Value) (e : Failure) → Bound first_bound start (Err e) → failed e ≡ bounds start limit step
unfolding bounds
first_fails start limit step e is = sym (is (λ i. limit_bound limit (λ l. step_bound step (λ s. WithRange i l s))))

pub limit_fails : (start limit step : m.Value) (i : ℤ) (e : Failure) → Bound first_bound start (Ok i) →
    Bound limit_bound limit (Err e) → failed e ≡ bounds start limit step
unfolding bounds
limit_fails start limit step i e is_i is =
    sym (is_i (λ i. limit_bound limit (λ l. step_bound step (λ s. WithRange i l s))) ∙ is (λ l. step_bound step (λ s. WithRange i l s)))

pub step_fails : (start limit step : m.Value) (i l : ℤ) (e : Failure) → Bound first_bound start (Ok i) →
    Bound limit_bound limit (Ok l) → Bound step_bound step (Err e) → failed e ≡ bounds start limit step
unfolding bounds
step_fails start limit step i l e is_i is_l is =
    sym (is_i (λ i. limit_bound limit (λ l. step_bound step (λ s. WithRange i l s))) ∙ is_l (λ l. step_bound step (λ s. WithRange i l s)) ∙ is (λ s. WithRange i l s))

pub range_is : (start limit step : m.Value) (i l s : ℤ) → Bound first_bound start (Ok i) →
    Bound limit_bound limit (Ok l) → Bound step_bound step (Ok s) → WithRange i l s ≡ bounds start limit step
unfolding bounds
range_is start limit step i l s is_i is_l is =
    sym (is_i (λ i. limit_bound limit (λ l. step_bound step (λ s. WithRange i l s))) ∙ is_l (λ l. step_bound step (λ s. WithRange i l s)) ∙ is (λ s. WithRange i l s))

pub bounds_are : (start limit step : m.Value) (i l s : Result ℤ Failure) → Bound first_bound start i → Bound limit_bound limit l → Bound step_bound step s →
    meant_bounds (in_order i l s) ≡ bounds start limit step
bounds_are start limit step (Ok i) (Ok l) (Ok s) is_i is_l is_s = range_is start limit step i l s is_i is_l is_s
bounds_are start limit step (Err e) l s is_i is_l is_s = first_fails start limit step e is_i
bounds_are start limit step (Ok i) (Err e) s is_i is_l is_s = limit_fails start limit step i e is_i is_l
bounds_are start limit step (Ok i) (Ok l) (Err e) is_i is_l is_s = step_fails start limit step i l e is_i is_l is_s

-- the three values that are read are those of the registers
pub bounds_there : (base step_at index_at : ℕ) (start limit step : m.Value) (f : machine.Frame) (w : machine.World) → step_at ≡ base + 1 → index_at ≡ step_at + 1 →
    start ≡ value_in f w index_at → limit ≡ value_in f w base → step ≡ value_in f w step_at → bounds start limit step ≡ bounds_in f w base
bounds_there base step_at index_at start limit step f w e k is_start is_limit is_step =
    let third : index_at ≡ base + 2 = omega (arith, e, k) in
    ap (λ v. bounds v limit step) (is_start ∙ ap (value_in f w) third)
    ∙ ap (λ v. bounds (value_in f w (base + 2)) v step) is_limit
    ∙ ap (λ v. bounds (value_in f w (base + 2)) (value_in f w base) v) (is_step ∙ ap (value_in f w) e)

-- ---- the bounds are written

pub range_written : (w : LibWorld) (code : Code) (s s' : StackView) (base : ℕ) (i l n : ℤ) →
    Becomes (changed (with_generator base (meant w.names (value.Num l)) (meant w.names (value.Num n)) (meant w.names (value.Num i)))) w code s w s' →
    Becomes (changed (with_bounds base i l n)) w code s w s'
range_written w code s s' base i l n becomes = λ x replies.
    let t = part w code s x replies in
    becomes x replies
    ∙ ap (λ v. changed (with_generator base v (meant w.names (value.Num n)) (meant w.names (value.Num i))) t) (number_is w.names l)
    ∙ ap (λ v. changed (with_generator base (m.Number l) v (meant w.names (value.Num i))) t) (number_is w.names n)
    ∙ ap (λ v. changed (with_generator base (m.Number l) (m.Number n) v) t) (number_is w.names i)

-- ---- rows

pub begins : (b : Bool) (by : ℤ) (next : ℕ) (f : machine.Frame) (fs : List machine.Frame) (w : machine.World) →
    begun b by next f fs w ≡ branch (not b) by next f fs w
begins true by next f fs w = refl
begins false by next f fs w = refl

-- a row that does something with the bounds fails where they do
pub bounds_fail : (w : LibWorld) (code : Code) (s : StackView) (r : Row) (q : Bounds → Row) (base : ℕ) (e : Failure) → Runs s →
    ((x : Focus) (replies : List Reply) → failed e ≡ read_of no_bounds (bounds_at base) (part w code s x replies)) →
    ((f : machine.Frame) (fs : List machine.Frame) (v : machine.World) → r f fs v ≡ q (bounds_in f v base) f fs v) →
    ((x : RunError) (f : machine.Frame) (fs : List machine.Frame) (v : machine.World) → q (Refused x) f fs v ≡ now (Fault x) f fs v) →
    ((x : Stop) (f : machine.Frame) (fs : List machine.Frame) (v : machine.World) → q (Halted x) f fs v ≡ Ends [] (Stopped x)) → Fails r w code s e s
bounds_fail w code s r q base (failure.NoNumber b k) runs read is refused halted = λ replies.
    let h = here w code s replies runs in
    row_here h r
    ∙ is h.frame h.others h.world
    ∙ ap (λ b. q b h.frame h.others h.world) (sym (read_here h no_bounds (bounds_at base) Run (Refused (ForBound b k)) (read Run replies)))
    ∙ refused (ForBound b k) h.frame h.others h.world
    ∙ sym (ap (λ t. Goes [] t) (h.is (Fault (ForBound b k))))
bounds_fail w code s r q base (failure.Stop x) runs read is refused halted = λ replies.
    let h = here w code s replies runs in
    row_here h r
    ∙ is h.frame h.others h.world
    ∙ ap (λ b. q b h.frame h.others h.world) (sym (read_here h no_bounds (bounds_at base) Run (Halted x) (read Run replies)))
    ∙ halted x h.frame h.others h.world

-- ---- the next turn

abbrev ranged : Bool → ℤ → Result ℤ Stop
ranged b z = cond b (Ok z) (Err OutOfRange)

within_ok : (b : Bool) (z n : ℤ) → ranged b z ≡ Ok n → n ≡ z
within_ok true z n e = cc
within_ok false z n e = absurd (cc)

within_err : (b : Bool) (z : ℤ) (x : Stop) → ranged b z ≡ Err x → b ≡ false
within_err true z x e = absurd (cc)
within_err false z x e = refl

-- an index out of range lies behind every limit
passed_up : (i l s : ℤ) → IsWhole i → IsWhole l → is_whole (i +ℤ s) ≡ false → int_lt (pos 0) s ≡ true → int_le (i +ℤ s) l ≡ false
passed_up i l s whole limit out up = grind (arith, ints, whole.0, whole.1, limit.0, limit.1)

passed_down : (i l s : ℤ) → IsWhole i → IsWhole l → is_whole (i +ℤ s) ≡ false → int_lt (pos 0) s ≡ false → int_le l (i +ℤ s) ≡ false
passed_down i l s whole limit out up = grind (arith, ints, whole.0, whole.1, limit.0, limit.1)

no_further : (i l s : ℤ) → IsWhole i → IsWhole l → is_whole (i +ℤ s) ≡ false → goes_on (i +ℤ s) l s ≡ false
unfolding goes_on
no_further i l s whole limit out = by (int_lt (pos 0) s) refl
  where
    by : (b : Bool) → int_lt (pos 0) s ≡ b → cond b (int_le (i +ℤ s) l) (int_le l (i +ℤ s)) ≡ false
    by true e = passed_up i l s whole limit out e
    by false e = passed_down i l s whole limit out e

pub further_out : (i l s : ℤ) (x : Stop) → IsWhole i → IsWhole l → within (i +ℤ s) ≡ Err x → None ≡ further i l s
further_out i l s x whole limit e =
    sym (ap (λ b. cond b (Some (i +ℤ s)) None) (no_further i l s whole limit (within_err (is_whole (i +ℤ s)) (i +ℤ s) x e)))

pub further_in : (i l s n : ℤ) (b : Bool) → within (i +ℤ s) ≡ Ok n → b ≡ goes_on n l s → cond b (Some n) None ≡ further i l s
further_in i l s n b e h =
    let same : n ≡ i +ℤ s = within_ok (is_whole (i +ℤ s)) (i +ℤ s) n e in
    ap (λ b. cond b (Some n) None) h ∙ ap (λ z. cond (goes_on z l s) (Some z) None) same

pub record Turn (i l s t : ℤ) : Type 0 where
  pub goes : goes_on (i +ℤ s) l s ≡ true
  pub is : t ≡ i +ℤ s

pub turn : (i l s t : ℤ) → Some t ≡ further i l s → Turn i l s t
turn i l s t e = by (goes_on (i +ℤ s) l s) refl e
  where
    by : (b : Bool) → goes_on (i +ℤ s) l s ≡ b → Some t ≡ cond b (Some (i +ℤ s)) None → Turn i l s t
    by true g e = let same : t ≡ i +ℤ s = cc in record { goes = g; is = same }
    by false g e = absurd (cc)

pub no_turn : (i l s : ℤ) → None ≡ further i l s → goes_on (i +ℤ s) l s ≡ false
no_turn i l s e = by (goes_on (i +ℤ s) l s) e
  where
    by : (b : Bool) → None ≡ cond b (Some (i +ℤ s)) None → b ≡ false
    by true e = absurd (cc)
    by false e = refl

pub count_charges : (w : LibWorld) (code : Code) (s : StackView) (chunk : ChunkOf) (words : List ℕ) (base : ℕ) (by : ℤ) (next : ℕ) → Runs s →
    MakesCharged (row chunk words (ForNLoop base by) next) w code s machine.Charged w s
count_charges w code s chunk words base by next runs = λ replies.
    let h = here w code s replies runs in
    row_here h (row chunk words (ForNLoop base by) next) ∙ sym (ap (λ t. Charges t) (h.is machine.Charged))

-- a turn that is there
pub turn_goes : (i l s t : ℤ) (base to : ℕ) (by : ℤ) (next : ℕ) (f : machine.Frame) (fs : List machine.Frame) (v : machine.World) → Turn i l s t →
    pos to ≡ pos (f.place + 1) +ℤ by →
    added (WithRange i l s) base by next f fs v ≡ on (go to) (with_bounds base t l s (inside f v)) fs
turn_goes i l s t base to by next f fs v h e =
    let j : Inside = with_bounds base (i +ℤ s) l s (inside f v) in
    let place : j.frame.place ≡ f.place = three_place base (m.Number l) (m.Number s) (m.Number (i +ℤ s)) (inside f v) in
    ap (λ b. again b base (i +ℤ s) l s by next f fs v) h.goes
    ∙ goes_back to by j.frame fs j.world (e ∙ ap (λ p. pos (p + 1) +ℤ by) (sym place))
    ∙ ap (λ z. on (go to) (with_bounds base z l s (inside f v)) fs) (sym h.is)
