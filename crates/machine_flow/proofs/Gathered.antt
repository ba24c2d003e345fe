-- Lists of values for the function that runs.
use Rattle.std.proofs.Common.{◌≡◌, ℕ, zero, suc, ◌+◌, ◌-◌, ◌<◌, ◌≤◌, List, [], ◌∷◌, ◌++◌, map, length, take, drop, replicate, Some, None, slice_get, refl, sym, ◌∙◌, ap, arith}
use Rattle.std.specs.List.{AllByRecursion}
use Rattle.std.proofs.lemmas.List.{drop-take}
use Rattle.value_model.specs.Parts.{meant}
use Rattle.value_model.specs.Values as m
use Rattle.value_model.specs.declared.event.Reply.{Reply}
use Rattle.value_model.specs.declared.value.Value.{Value}
use Rattle.value_model.specs.declared.value.Value.TheVariants as value
use Rattle.value_arena.specs.declared.closure.Closure.{Closure}
use Rattle.value_arena.specs.Arenas.{objects_of}
use Rattle.luau_tables.specs.declared.globals.LibWorld.{LibWorld}
use Rattle.luau_tables.proofs.Sameness.{nil_is}
use Rattle.call_frames.specs.declared.frame.Frame.{Frame}
use Rattle.call_frames.specs.Stacks.{StackView, Layout}
use Rattle.call_frames.specs.Cells.{innermost}
use Rattle.machine_meaning.specs.States as machine
use Rattle.machine_meaning.specs.States.{Focus, adjusted}
use Rattle.machine_meaning.specs.Moves.{inside, on, go, first}
use Rattle.machine_meaning.specs.Effects as row
use Rattle.machine_code.specs.declared.code.Code.{Code}
use Rattle.machine_world.specs.Functions.{cells_of}
use Rattle.machine_world.specs.Parts.{world_with, part, delivered, read_in, read_of}
use Rattle.machine_world.specs.Sound.{Runs}
use Rattle.machine_world.proofs.Frames.{inner, functions_split, lies}
use Rattle.machine_world.proofs.Calling.{all_take, all_append, all_replicate}
use Rattle.machine_flow.specs.Flow as flow
use Rattle.machine_flow.specs.Flow.{as_many, varargs}

-- ---- as many values

pub adjusted_is : (texts : List m.Bytes) (n : ℕ) (vs : List Value) →
    adjusted n (map (meant texts) vs) ≡ map (meant texts) (take n vs ++ replicate (n - length vs) value.Nil)
adjusted_is texts zero vs =
    let none : 0 - length vs ≡ 0 = omega arith in
    sym (ap (λ k. map (meant texts) (replicate k value.Nil)) none)
adjusted_is texts (suc n) [] =
    let all : n - 0 ≡ n = omega arith in
    let more : suc n - 0 ≡ suc n = omega arith in
    ap (λ l. m.Nil ∷ l) (adjusted_is texts n [] ∙ front n ∙ ap (λ k. map (meant texts) (replicate k value.Nil)) all)
    ∙ ap (λ v. v ∷ map (meant texts) (replicate n value.Nil)) (sym (nil_is texts))
    ∙ sym (ap (λ k. map (meant texts) (replicate k value.Nil)) more)
  where
    front : (n : ℕ) → map (meant texts) (take n [] ++ replicate (n - 0) value.Nil) ≡ map (meant texts) (replicate (n - 0) value.Nil)
    front zero = refl
    front (suc n) = refl
adjusted_is texts (suc n) (v ∷ vs) =
    let less : suc n - length (v ∷ vs) ≡ n - length vs = omega arith in
    ap (λ l. meant texts v ∷ l) (adjusted_is texts n vs)
    ∙ sym (ap (λ k. map (meant texts) (v ∷ take n vs ++ replicate k value.Nil)) less)

pub results_are : (texts : List m.Bytes) (to count next : ℕ) (vs : List Value) (f : machine.Frame) (fs : List machine.Frame) (w : machine.World) → row.results to count next (map (meant texts) vs) f fs w ≡ on (go next) (delivered to (map (meant texts) (as_many count vs)) (inside f w)) fs
results_are texts to zero next vs f fs w = refl
results_are texts to (suc n) next vs f fs w = ap (λ l. row.deliver to next l f fs w) (adjusted_is texts n vs)

pub as_many_all : (count : ℕ) (vs : List Value) → count ≤ 0 → vs ≡ as_many count vs
as_many_all zero vs le = refl
as_many_all (suc n) vs le = absurd (omega (arith, le))

pub as_many_less : (count : ℕ) (vs : List Value) → 0 < count → as_many count vs ≡ take (count - 1) vs ++ replicate (count - 1 - length vs) value.Nil
as_many_less zero vs lt = absurd (omega (arith, lt))
as_many_less (suc n) vs lt =
    let less : n ≡ suc n - 1 = omega arith in
    ap (λ k. take k vs ++ replicate (k - length vs) value.Nil) less

pub all_as_many : (P : Value → Type 0) (count : ℕ) (vs : List Value) → P value.Nil → AllByRecursion P vs → AllByRecursion P (as_many count vs)
all_as_many P zero vs nil h = h
all_as_many P (suc n) vs nil h = all_append P (take n vs) (replicate (n - length vs) value.Nil) (all_take P n vs h) (all_replicate P (n - length vs) value.Nil nil)

pub all_resized : (P : Value → Type 0) (n k : ℕ) (vs : List Value) → P value.Nil → AllByRecursion P vs → AllByRecursion P (take n vs ++ replicate k value.Nil)
all_resized P n k vs nil h = all_append P (take n vs) (replicate k value.Nil) (all_take P n vs h) (all_replicate P k value.Nil nil)

-- ---- variable arguments

between : (first base : ℕ) (regs : List Value) → first ≤ base → take (base - first) (drop first regs) ≡ drop first (take base regs)
between first base regs le =
    let all : first + (base - first) ≡ base = omega (arith, le) in
    sym (drop-take first (base - first) regs) ∙ ap (λ n. drop first (take n regs)) all

pub part_varargs : (w : LibWorld) (code : Code) (s : StackView) (f : Frame) (x : Focus) (replies : List Reply) → innermost s ≡ Some f → Runs s →
    map (meant w.names) (take (f.base - (f.base - f.extra)) (drop (f.base - f.extra) s.registers)) ≡ read_of [] varargs (part w code s x replies)
unfolding part
part_varargs w code s f x replies e runs =
    let i = inner s runs in
    let same : i.frame ≡ f = one i.frame f (sym i.is ∙ e) in
    let cs : List Closure = (objects_of w.arena w.owner).closures in
    ap (map (meant w.names)) (between (f.base - f.extra) f.base s.registers (omega arith))
    ∙ ap (λ (f : Frame). map (meant w.names) (drop (f.base - f.extra) (take f.base s.registers))) (sym same)
    ∙ sym (ap (λ fs. read_in [] varargs fs (world_with w code s.frames replies (cells_of w.names w.owner s w.arena))) (functions_split w.names cs s i.frame i.closure i.is i.of))
  where
    one : (f g : Frame) → Some f ≡ Some g → f ≡ g
    one f g e = cc

pub below_base : (s : StackView) (f : Frame) → innermost s ≡ Some f → Layout s → f.base ≤ length s.registers
below_base s f e layout = omega (arith, (lies s f e layout).high)

-- ---- the first value

pub first_is : (texts : List m.Bytes) (vs : List Value) → meant texts (flow.first vs) ≡ first (map (meant texts) vs)
first_is texts [] = nil_is texts
first_is texts (v ∷ vs) = refl

pub first_usable : (P : Value → Type 0) (vs : List Value) → P value.Nil → AllByRecursion P vs → P (flow.first vs)
first_usable P [] nil h = nil
first_usable P (v ∷ vs) nil h = h.0

pub first_some : (vs : List Value) (v : Value) → Some v ≡ slice_get vs 0 → v ≡ flow.first vs
first_some [] v e = absurd (cc)
first_some (u ∷ vs) v e = cc

pub first_none : (vs : List Value) → None ≡ slice_get vs 0 → value.Nil ≡ flow.first vs
first_none [] e = refl
first_none (u ∷ vs) e = absurd (cc)
