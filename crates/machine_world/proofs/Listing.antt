-- Lists of values in the registers of the function that runs.
use Rattle.std.proofs.Common.{◌≡◌, ℕ, zero, suc, ◌+◌, ◌-◌, ◌≤◌, max, cond, List, [], ◌∷◌, map, length, take, drop, get_or, Option, Some, None, IsSomeAnd, refl, sym, ◌∙◌, ap, subst, arith, lt-ltb}
use Rattle.std.specs.List.{AllByRecursion}
use Rattle.std.proofs.lemmas.List.{drop_more}
use Rattle.value_model.specs.Parts.{meant}
use Rattle.value_model.specs.Values as m
use Rattle.value_model.specs.declared.event.Reply.{Reply}
use Rattle.value_model.specs.declared.ids.ClosureId.{ClosureId}
use Rattle.value_model.specs.declared.value.Value.TheVariants as value
use Rattle.value_arena.specs.declared.closure.Closure.{Closure}
use Rattle.value_arena.specs.Arenas.{objects_of}
use Rattle.luau_tables.specs.Worlds.{MayUseIn}
use Rattle.luau_tables.specs.declared.globals.LibWorld.{LibWorld}
use Rattle.call_frames.specs.declared.frame.Frame.{Frame}
use Rattle.call_frames.specs.Stacks.{StackView, Layout}
use Rattle.call_frames.specs.Cells.{innermost, end_in, end_of}
use Rattle.machine_meaning.specs.States as machine
use Rattle.machine_meaning.specs.States.{Register, Val, Focus, held, values_in}
use Rattle.machine_meaning.specs.Effects.{list_from}
use Rattle.machine_code.specs.declared.code.Code.{Code}
use Rattle.machine_world.specs.Functions.{register, running, laid, kept_cells, cells_of}
use Rattle.machine_world.specs.Parts.{world_with, part, read_in, read_of, list_of, span}
use Rattle.machine_world.specs.Sound.{IsLuau, Runs, ReachesTo, HasList, IsMachine}
use Rattle.machine_world.proofs.Laid.{distinct}
use Rattle.machine_world.proofs.Registers.{held_is}
use Rattle.machine_world.proofs.Frames.{inner, of_frame, functions_split, lies}
use Rattle.machine_world.proofs.Written.{of_kept}
use Rattle.machine_world.proofs.Calling.{all_take}
use Rattle.machine_world.proofs.Delivering.{all_drop}

-- so many registers from one on
values_are : (w : LibWorld) (code : Code) (s : StackView) (f : Frame) (c : ClosureId) (from n : ℕ) (replies : List Reply) → Layout s → IsMachine w s →
    from + n ≤ max f.registers (s.top - f.base) → f.base + from + n ≤ length s.registers →
    values_in (running w.names (objects_of w.arena w.owner).closures s c f) (world_with w code s.frames replies (laid w.names s.registers s.cells (kept_cells w.names w.owner w.arena))) from n ≡ map (meant w.names) (take n (drop (f.base + from) s.registers))
values_are w code s f c from zero replies layout is wide high = refl
values_are w code s f c from (suc n) replies layout is wide high =
    let names = w.names in
    let kept : List m.Value = kept_cells names w.owner w.arena in
    let cells : List m.Value = laid names s.registers s.cells kept in
    let run : machine.Frame = running names (objects_of w.arena w.owner).closures s c f in
    let world : machine.World = world_with w code s.frames replies cells in
    let of = of_kept names w.owner w.arena s.cells is.cells in
    let next : f.base + from + 1 ≡ f.base + suc from = omega arith in
    ap (λ b. held cells (cond b (register names s.registers s.cells (f.base + from)) (Val m.Nil)) ∷ values_in run world (suc from) n) (lt-ltb from (max f.registers (s.top - f.base)) (omega (arith, wide)))
    ∙ ap (λ v. v ∷ values_in run world (suc from) n) (held_is names s.registers w.owner (f.base + from) s.cells kept (distinct w.owner (length kept) s.cells of layout.once) of)
    ∙ ap (λ vs. meant names (get_or s.registers (f.base + from) value.Nil) ∷ vs) (values_are w code s f c (suc from) n replies layout is (omega (arith, wide)) (omega (arith, high)))
    ∙ sym (ap (λ l. map (meant names) (take (suc n) l)) (drop_more s.registers (f.base + from) value.Nil (omega (arith, high)) ∙ ap (λ k. get_or s.registers (f.base + from) value.Nil ∷ drop k s.registers) next))

luau_list : (count from : ℕ) (q : Option Frame) → IsSomeAnd q (λ f. IsLuau f × ReachesTo count from f.registers) → IsSomeAnd q IsLuau
luau_list count from None h = h
luau_list count from (Some f) h = h.0

pub runs_list : (s : StackView) (count from : ℕ) → HasList s count from → Runs s
runs_list s count from h = luau_list count from (innermost s) h

-- how many there are, and that they are there
pub record Reached (s : StackView) (f : Frame) (count from : ℕ) : Type 0 where
  pub wide : from + span count s.top (f.base + from) ≤ max f.registers (s.top - f.base)
  pub within : f.base + from + span count s.top (f.base + from) ≤ length s.registers
  pub low : ReachesTo count from f.registers

reached_by : (count from : ℕ) (s : StackView) (f : Frame) → f.base + f.registers ≤ length s.registers → s.top ≤ length s.registers →
    ReachesTo count from f.registers → Reached s f count from
reached_by zero from s f high top h = record { wide = omega (arith, h); within = omega (arith, h, high, top); low = h }
reached_by (suc k) from s f high top h = record { wide = omega (arith, h); within = omega (arith, h, high); low = h }

pub reached : (s : StackView) (f : Frame) (count from : ℕ) → innermost s ≡ Some f → HasList s count from → Layout s → Reached s f count from
reached s f count from e h layout =
    reached_by count from s f (lies s f e layout).high layout.top (of_frame s (λ f. IsLuau f × ReachesTo count from f.registers) f e h).1

list_is : (count from : ℕ) (s : StackView) (f : Frame) (run : machine.Frame) (world : machine.World) → run.top ≡ s.top - f.base →
    list_from count from run world ≡ values_in run world from (span count s.top (f.base + from))
list_is zero from s f run world e = let n : run.top - from ≡ s.top - (f.base + from) = omega (arith, e) in ap (λ n. values_in run world from n) n
list_is (suc k) from s f run world e = refl

pub part_list : (w : LibWorld) (code : Code) (s : StackView) (f : Frame) (count from : ℕ) (x : Focus) (replies : List Reply) → innermost s ≡ Some f →
    HasList s count from → Layout s → IsMachine w s →
    map (meant w.names) (take (span count s.top (f.base + from)) (drop (f.base + from) s.registers)) ≡ read_of [] (list_of count from) (part w code s x replies)
unfolding part cells_of
part_list w code s f count from x replies e h layout is =
    let i = inner s (runs_list s count from h) in
    let same : i.frame ≡ f = one s i.frame f i.is e in
    let r = reached s i.frame count from i.is h layout in
    let cs : List Closure = (objects_of w.arena w.owner).closures in
    let cells : List m.Value = laid w.names s.registers s.cells (kept_cells w.names w.owner w.arena) in
    let run : machine.Frame = running w.names cs s i.closure i.frame in
    let world : machine.World = world_with w code s.frames replies cells in
    ap (λ (f : Frame). map (meant w.names) (take (span count s.top (f.base + from)) (drop (f.base + from) s.registers))) (sym same)
    ∙ sym (ap (λ fs. read_in [] (list_of count from) fs world) (functions_split w.names cs s i.frame i.closure i.is i.of)
    ∙ list_is count from s i.frame run world refl
    ∙ values_are w code s i.frame i.closure from (span count s.top (i.frame.base + from)) replies layout is r.wide r.within)
  where
    some_is : (f g : Frame) → Some f ≡ Some g → f ≡ g
    some_is f g e = cc

    one : (s : StackView) (f g : Frame) → innermost s ≡ Some f → innermost s ≡ Some g → f ≡ g
    one s f g e k = some_is f g (sym e ∙ k)

pub list_usable : (w : LibWorld) (s : StackView) (n from : ℕ) → IsMachine w s → AllByRecursion (MayUseIn w) (take n (drop from s.registers))
list_usable w s n from is = all_take (MayUseIn w) n (drop from s.registers) (all_drop (MayUseIn w) from s.registers is.values)

place_by : (count from : ℕ) (f : Frame) → ReachesTo count from f.registers → f.base + from ≤ f.base + f.registers
place_by zero from f h = omega (arith, h)
place_by (suc k) from f h = omega (arith, h)

-- where a list begins is no further than the end of the registers
pub list_place : (s : StackView) (f : Frame) (count from : ℕ) → innermost s ≡ Some f → HasList s count from → f.base + from ≤ end_of s
list_place s f count from e h =
    subst (λ n. f.base + from ≤ n) (sym (ap end_in e)) (place_by count from f (of_frame s (λ f. IsLuau f × ReachesTo count from f.registers) f e h).1)
