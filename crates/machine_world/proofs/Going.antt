-- Rows that call nothing.
use Rattle.std.proofs.Common.{◌≡◌, ℕ, ◌+◌, Bool, List, [], ◌∷◌, reverse, Option, Some, None, IsSomeAnd, refl, sym, ◌∙◌, ap, subst}
use Rattle.value_model.specs.Parts.{meant}
use Rattle.value_model.specs.Values as m
use Rattle.value_model.specs.declared.value.Value.TheVariants as value
use Rattle.value_model.specs.declared.event.Reply.{Reply}
use Rattle.value_arena.specs.declared.closure.Closure.{Closure}
use Rattle.value_arena.specs.Arenas.{objects_of}
use Rattle.bounded_runs.specs.Runs.{Goes}
use Rattle.luau_tables.specs.declared.globals.LibWorld.{LibWorld}
use Rattle.call_frames.specs.declared.frame.Frame.{Frame}
use Rattle.call_frames.specs.declared.frame.ReturnKind.TheVariants.{Idle}
use Rattle.call_frames.specs.Stacks.{StackView}
use Rattle.call_frames.specs.Cells.{innermost, outer}
use Rattle.machine_meaning.specs.States as machine
use Rattle.machine_meaning.specs.States.{Register, Val, Open, Run, Focus, Inside, State, write}
use Rattle.machine_meaning.specs.Moves.{Row, Step, inside, on, go, give, saved}
use Rattle.machine_meaning.specs.Calls.{hand_back}
use Rattle.machine_meaning.specs.Effects.{list_from, call}
use Rattle.value_model.specs.Waits.{ByScript}
use Rattle.machine_code.specs.declared.code.Code.{Code}
use Rattle.machine_world.specs.Functions.{waiting, running, cells_of, purpose_of}
use Rattle.machine_world.specs.Parts.{world_with, part, changed, changed_in, placed, waits, left, register_value, list_of, Becomes, read_in, read_of}
use Rattle.machine_world.specs.Rows.{row_in, Makes, MakesTo}
use Rattle.machine_world.specs.Sound.{IsLuau, Runs, GoesOn}
use Rattle.machine_world.proofs.Frames.{inner, of_frame, functions_split}

goes_some : (q : Option Frame) → IsSomeAnd q (λ f. IsLuau f × (f.kind ≡ Idle)) → IsSomeAnd q IsLuau
goes_some None h = h
goes_some (Some f) h = h.0

pub runs_on : (s : StackView) → GoesOn s → Runs s
runs_on s h = goes_some (innermost s) h

-- what is looked at is the frames alone
pub goes_same : (s s' : StackView) → s'.frames ≡ s.frames → GoesOn s → GoesOn s'
goes_same s s' e h = subst (λ (fs : List Frame). GoesOn (record s' { frames = fs })) (sym e) h

-- the code goes on behind a change that leaves what the function waits for
pub row_goes : (w w' : LibWorld) (code : Code) (s s1 s2 : StackView) (row : Row) (g : Inside → Inside) (next : ℕ) →
    ((f : machine.Frame) (fs : List machine.Frame) (v : machine.World) → row f fs v ≡ on (go next) (g (inside f v)) fs) →
    ((i : Inside) → (g i).frame.purpose ≡ i.frame.purpose) → Becomes (changed g) w code s w' s1 → Becomes (changed (placed next)) w' code s1 w' s2 →
    GoesOn s → Makes row w code s w' s2
unfolding part
row_goes w w' code s s1 s2 row g next is keeps one two on_it = λ replies.
    let i = inner s (runs_on s on_it) in
    let f = i.frame in
    let cs : List Closure = (objects_of w.arena w.owner).closures in
    let run : machine.Frame = running w.names cs s i.closure f in
    let others : List machine.Frame = waiting w.names cs s.registers s.cells (reverse (outer s)) in
    let world : machine.World = world_with w code s.frames replies (cells_of w.names w.owner s w.arena) in
    let split = functions_split w.names cs s f i.closure i.is i.of in
    let idle : f.kind ≡ Idle = (of_frame s (λ f. IsLuau f × (f.kind ≡ Idle)) f i.is on_it).1 in
    let j : Inside = g (inside run world) in
    let none : j.frame.purpose ≡ machine.Idle = keeps (inside run world) ∙ ap (λ k. purpose_of w.names k) idle in
    ap (λ fs. row_in row fs world) split
    ∙ is run others world
    ∙ ap (λ p. Goes [] (record { focus = Run; functions = record j.frame { place = next; purpose = p } ∷ others; world = j.world })) (sym none)
    ∙ sym (ap (λ t. Goes [] t) (two Run replies ∙ ap (changed (placed next)) (one Run replies)
    ∙ ap (λ fs. changed (placed next) (changed_in g Run fs world)) split))

pub set_keeps : (r : ℕ) (v : m.Value) (i : Inside) → (machine.set r v i).frame.purpose ≡ i.frame.purpose
set_keeps r v i = by (i.frame.registers r)
  where
    by : (reg : Register) → (write reg r v i).frame.purpose ≡ i.frame.purpose
    by (Val u) = refl
    by (Open c) = refl

-- a value is given to a register
pub give_makes : (w : LibWorld) (code code' : Code) (s s1 s2 : StackView) (to next : ℕ) (v : m.Value) → code' ≡ code →
    Becomes (changed (machine.set to v)) w code s w s1 → Becomes (changed (placed next)) w code' s1 w s2 → GoesOn s →
    Makes (give to v next) w code s w s2
give_makes w code code' s s1 s2 to next v e one two h =
    row_goes w w code s s1 s2 (give to v next) (machine.set to v) next (λ f fs v. refl) (set_keeps to v) one (subst (λ c. Becomes (changed (placed next)) w c s1 w s2) e two) h

-- a row that gives a register what is read of the function that runs
pub read_makes : (w w' : LibWorld) (code : Code) (s s' : StackView) (r : Row) (to next : ℕ) (v : m.Value) (read : Inside → m.Value) →
    Makes (give to v next) w code s w' s' →
    ((f : machine.Frame) (fs : List machine.Frame) (u : machine.World) → r f fs u ≡ give to (read (inside f u)) next f fs u) →
    ((x : Focus) (replies : List Reply) → v ≡ read_of m.Nil read (part w code s x replies)) → GoesOn s → Makes r w code s w' s'
unfolding part
read_makes w w' code s s' r to next v read makes is same h = λ replies.
    let i = inner s (runs_on s h) in
    let cs : List Closure = (objects_of w.arena w.owner).closures in
    let run : machine.Frame = running w.names cs s i.closure i.frame in
    let others : List machine.Frame = waiting w.names cs s.registers s.cells (reverse (outer s)) in
    let world : machine.World = world_with w code s.frames replies (cells_of w.names w.owner s w.arena) in
    let split = functions_split w.names cs s i.frame i.closure i.is i.of in
    let value : v ≡ read (inside run world) = same Run replies ∙ ap (λ fs. read_in m.Nil read fs world) split in
    ap (λ fs. row_in r fs world) split
    ∙ is run others world
    ∙ ap (λ u. give to u next run others world) (sym value)
    ∙ sym (ap (λ fs. row_in (give to v next) fs world) split)
    ∙ makes replies

-- a row that gives a register a value that is known
pub known_makes : (w w' : LibWorld) (code : Code) (s s' : StackView) (r : Row) (to next : ℕ) (u v : m.Value) → Makes (give to u next) w code s w' s' →
    u ≡ v → ((f : machine.Frame) (fs : List machine.Frame) (x : machine.World) → r f fs x ≡ give to v next f fs x) → GoesOn s → Makes r w code s w' s'
unfolding part
known_makes w w' code s s' r to next u v makes e is h = λ replies.
    let i = inner s (runs_on s h) in
    let cs : List Closure = (objects_of w.arena w.owner).closures in
    let run : machine.Frame = running w.names cs s i.closure i.frame in
    let others : List machine.Frame = waiting w.names cs s.registers s.cells (reverse (outer s)) in
    let world : machine.World = world_with w code s.frames replies (cells_of w.names w.owner s w.arena) in
    let split = functions_split w.names cs s i.frame i.closure i.is i.of in
    ap (λ fs. row_in r fs world) split
    ∙ is run others world
    ∙ ap (λ u. give to u next run others world) (sym e)
    ∙ sym (ap (λ fs. row_in (give to u next) fs world) split)
    ∙ makes replies

-- a change by a value that is read is that change by what is read
pub read_becomes : (w w' : LibWorld) (code : Code) (s s' : StackView) (change : m.Value → Inside → Inside) (read : Inside → m.Value) (v : m.Value) →
    Becomes (changed (change v)) w code s w' s' → ((x : Focus) (replies : List Reply) → v ≡ read_of m.Nil read (part w code s x replies)) → GoesOn s →
    Becomes (changed (λ i. change (read i) i)) w code s w' s'
unfolding part
read_becomes w w' code s s' change read v becomes same h = λ x replies.
    let i = inner s (runs_on s h) in
    let cs : List Closure = (objects_of w.arena w.owner).closures in
    let run : machine.Frame = running w.names cs s i.closure i.frame in
    let others : List machine.Frame = waiting w.names cs s.registers s.cells (reverse (outer s)) in
    let world : machine.World = world_with w code s.frames replies (cells_of w.names w.owner s w.arena) in
    let split = functions_split w.names cs s i.frame i.closure i.is i.of in
    let value : v ≡ read (inside run world) = same x replies ∙ ap (λ fs. read_in m.Nil read fs world) split in
    becomes x replies
    ∙ ap (λ fs. changed_in (change v) x fs world) split
    ∙ ap (λ u. changed_in (change u) x (run ∷ others) world) value
    ∙ sym (ap (λ fs. changed_in (λ i. change (read i) i) x fs world) split)

pub bool_is : (texts : List m.Bytes) (b : Bool) → meant texts (value.Bool b) ≡ m.Boolean b
unfolding meant
bool_is texts b = refl

-- what follows from a value that is read is read
pub read_through : (w : LibWorld) (code : Code) (s : StackView) (x : Focus) (replies : List Reply) (g : m.Value → m.Value) (read : Inside → m.Value) (v : m.Value) → v ≡ read_of m.Nil read (part w code s x replies) → GoesOn s → g v ≡ read_of m.Nil (λ i. g (read i)) (part w code s x replies)
unfolding part
read_through w code s x replies g read v e h =
    let i = inner s (runs_on s h) in
    let cs : List Closure = (objects_of w.arena w.owner).closures in
    let world : machine.World = world_with w code s.frames replies (cells_of w.names w.owner s w.arena) in
    let split = functions_split w.names cs s i.frame i.closure i.is i.of in
    ap g (e ∙ ap (λ fs. read_in m.Nil read fs world) split) ∙ sym (ap (λ fs. read_in m.Nil (λ i. g (read i)) fs world) split)

-- ---- calls and returns

-- a call waits, with what is called and its arguments
pub call_makes : (w : LibWorld) (code : Code) (s s' : StackView) (base arguments results next : ℕ) (callee : m.Value) (args : List m.Value) →
    ((x : Focus) (replies : List Reply) → callee ≡ read_of m.Nil (register_value base) (part w code s x replies)) →
    ((x : Focus) (replies : List Reply) → args ≡ read_of [] (list_of arguments (base + 1)) (part w code s x replies)) →
    Becomes (changed (waits (machine.Results base results next))) w code s w s' → GoesOn s →
    MakesTo (call base arguments results next) w code s (machine.Invoke ByScript callee args) w s'
unfolding part
call_makes w code s s' base arguments results next callee args is_callee is_args becomes h = λ replies.
    let i = inner s (runs_on s h) in
    let cs : List Closure = (objects_of w.arena w.owner).closures in
    let run : machine.Frame = running w.names cs s i.closure i.frame in
    let others : List machine.Frame = waiting w.names cs s.registers s.cells (reverse (outer s)) in
    let world : machine.World = world_with w code s.frames replies (cells_of w.names w.owner s w.arena) in
    let split = functions_split w.names cs s i.frame i.closure i.is i.of in
    let f : callee ≡ machine.value_in run world base = is_callee Run replies ∙ ap (λ fs. read_in m.Nil (register_value base) fs world) split in
    let vs : args ≡ list_from arguments (base + 1) run world = is_args Run replies ∙ ap (λ fs. read_in [] (list_of arguments (base + 1)) fs world) split in
    let done : m.Value → List m.Value → Step = λ f vs. Goes [] (record { focus = machine.Invoke ByScript f vs; functions = saved (machine.Results base results next) run ∷ others; world = world }) in
    ap (λ fs. row_in (call base arguments results next) fs world) split
    ∙ ap (λ f. done f (list_from arguments (base + 1) run world)) (sym f)
    ∙ ap (λ vs. done callee vs) (sym vs)
    ∙ sym (ap (λ t. Goes [] t) (becomes (machine.Invoke ByScript callee args) replies ∙ ap (λ fs. changed_in (waits (machine.Results base results next)) (machine.Invoke ByScript callee args) fs world) split))

-- a function is left with values
pub return_makes : (w w' : LibWorld) (code : Code) (s s' : StackView) (r : Row) (base count : ℕ) (vs : List m.Value) →
    ((f : machine.Frame) (fs : List machine.Frame) (u : machine.World) → r f fs u ≡ hand_back (list_from count base f u) fs u) →
    ((x : Focus) (replies : List Reply) → vs ≡ read_of [] (list_of count base) (part w code s x replies)) → Becomes left w code s w' s' → GoesOn s →
    MakesTo r w code s (machine.Hand vs) w' s'
unfolding part
return_makes w w' code s s' r base count vs is is_vs becomes h = λ replies.
    let i = inner s (runs_on s h) in
    let cs : List Closure = (objects_of w.arena w.owner).closures in
    let run : machine.Frame = running w.names cs s i.closure i.frame in
    let others : List machine.Frame = waiting w.names cs s.registers s.cells (reverse (outer s)) in
    let world : machine.World = world_with w code s.frames replies (cells_of w.names w.owner s w.arena) in
    let split = functions_split w.names cs s i.frame i.closure i.is i.of in
    let values : vs ≡ list_from count base run world = is_vs Run replies ∙ ap (λ fs. read_in [] (list_of count base) fs world) split in
    ap (λ fs. row_in r fs world) split
    ∙ is run others world
    ∙ ap (λ vs. hand_back vs others world) (sym values)
    ∙ sym (ap (λ t. Goes [] t) (becomes (machine.Hand vs) replies ∙ ap (λ fs. left (record { focus = machine.Hand vs; functions = fs; world = world })) split))
