-- The function that runs, as the state shows it.
use Rattle.std.proofs.Common.{◌≡◌, ℕ, ℤ, pos, negsuc, ◌+◌, ◌+ℤ◌, ◌/◌, ◌^◌, nat_eq, Bool, true, false, cond, List, [], ◌∷◌, reverse, Option, Some, None, IsSomeAnd, refl, sym, ◌∙◌, ap, subst}
use Rattle.std.specs.Option.{option_map_or}
use Rattle.value_model.specs.Parts.{meant}
use Rattle.value_model.specs.Values as m
use Rattle.value_model.specs.declared.event.Reply.{Reply}
use Rattle.value_model.specs.declared.value.Value.{Value}
use Rattle.value_arena.specs.declared.closure.Closure.{Closure}
use Rattle.value_arena.specs.Arenas.{objects_of}
use Rattle.bounded_runs.specs.Runs.{Goes, Charges}
use Rattle.luau_tables.specs.declared.globals.LibWorld.{LibWorld}
use Rattle.call_frames.specs.declared.frame.Frame.{Frame}
use Rattle.call_frames.specs.declared.frame.ReturnKind.{ReturnKind}
use Rattle.call_frames.specs.declared.frame.ReturnKind.TheVariants.{Idle}
use Rattle.call_frames.specs.Stacks.{StackView}
use Rattle.call_frames.specs.Cells.{innermost, outer}
use Rattle.machine_meaning.specs.States as machine
use Rattle.machine_meaning.specs.States.{Run, Focus, Inside, State}
use Rattle.machine_meaning.specs.Moves.{Row, inside, go, charge, give, jump, jump_back, branch}
use Rattle.machine_meaning.specs.Effects.{decided, with_constant, agrees, jumps_with}
use Rattle.machine_meaning.specs.Constants.{known}
use Rattle.op_words.specs.Chunks.{ChunkOf}
use Rattle.value_model.specs.Values.{is_true}
use Rattle.value_model.specs.Tables as model
use Rattle.value_model.specs.declared.value.Value.TheVariants as value
use Rattle.value_arena.specs.Tables as kept
use Rattle.luau_tables.specs.Worlds.{IsWorld, MayUseIn}
use Rattle.luau_tables.proofs.Sameness.{same_kept}
use Rattle.luau_tables.proofs.OwnTables.{own_value}
use Rattle.machine_code.specs.declared.code.Code.{Code}
use Rattle.machine_world.specs.Functions.{waiting, running, cells_of, purpose_of}
use Rattle.machine_world.specs.Parts.{world_with, state_with, part, changed, placed, Becomes, read_in, read_of}
use Rattle.machine_world.specs.Rows.{row_in, Makes, MakesTo, MakesCharged, place_here, proto_here}
use Rattle.machine_world.specs.Sound.{IsLuau, Runs, GoesOn, WaitsFor, Ahead}
use Rattle.machine_world.proofs.Frames.{inner, of_frame, functions_split}
use Rattle.machine_world.proofs.Going.{runs_on}

-- the function that runs, those below it, and what all share
pub record Here (w : LibWorld) (code : Code) (s : StackView) (replies : List Reply) : Type 0 where
  pub entry : Frame
  pub found : innermost s ≡ Some entry
  pub frame : machine.Frame
  pub others : List machine.Frame
  pub world : machine.World
  pub is : (x : Focus) → part w code s x replies ≡ record { focus = x; functions = frame ∷ others; world = world }
  pub purpose : frame.purpose ≡ purpose_of w.names entry.kind
  pub place : frame.place ≡ place_here s
  pub proto : frame.proto ≡ proto_here w code s

pub here : (w : LibWorld) (code : Code) (s : StackView) (replies : List Reply) → Runs s → Here w code s replies
unfolding part
here w code s replies runs =
    let i = inner s runs in
    let cs : List Closure = (objects_of w.arena w.owner).closures in
    let run : machine.Frame = running w.names cs s i.closure i.frame in
    let cells = cells_of w.names w.owner s w.arena in
    let split = functions_split w.names cs s i.frame i.closure i.is i.of in
    record {
      entry = i.frame;
      found = i.is;
      frame = run;
      others = waiting w.names cs s.registers s.cells (reverse (outer s));
      world = world_with w code s.frames replies cells;
      is = λ x. ap (λ fs. state_with w code s.frames x replies fs cells) split;
      purpose = refl;
      place = sym (ap (λ q. option_map_or (λ f. f.place) q 0) i.is);
      proto = sym (ap (λ fs. read_in 0 (λ i. i.frame.proto) fs (world_with w code s.frames [] cells)) split);
    }

-- what is read there
pub read_here : {A : Type 0} {w : LibWorld} {code : Code} {s : StackView} {replies : List Reply} (h : Here w code s replies) (none : A) (read : Inside → A) (x : Focus) (v : A) → v ≡ read_of none read (part w code s x replies) → v ≡ read (inside h.frame h.world)
read_here h none read x v e = e ∙ ap (λ (t : State). read_of none read t) (h.is x)

-- it waits for no call, or for one so
pub idle_here : {w : LibWorld} {code : Code} {s : StackView} {replies : List Reply} (h : Here w code s replies) → GoesOn s → h.frame.purpose ≡ machine.Idle
idle_here {w} {code} {s} h goes = h.purpose ∙ ap (purpose_of w.names) (of_frame s (λ f. IsLuau f × (f.kind ≡ Idle)) h.entry h.found goes).1

pub waits_here : {w : LibWorld} {code : Code} {s : StackView} {replies : List Reply} (h : Here w code s replies) (kind : ReturnKind) → WaitsFor s kind → h.frame.purpose ≡ purpose_of w.names kind
waits_here {w} {code} {s} h kind waits = h.purpose ∙ ap (purpose_of w.names) (of_frame s (λ f. IsLuau f × (f.kind ≡ kind)) h.entry h.found waits).1

waits_some : (kind : ReturnKind) (q : Option Frame) → IsSomeAnd q (λ f. IsLuau f × (f.kind ≡ kind)) → IsSomeAnd q IsLuau
waits_some kind None h = h
waits_some kind (Some f) h = h.0

pub runs_waiting : (s : StackView) (kind : ReturnKind) → WaitsFor s kind → Runs s
runs_waiting s kind h = waits_some kind (innermost s) h

-- ---- rows

-- a row is done there
pub row_here : {w : LibWorld} {code : Code} {s : StackView} {replies : List Reply} (h : Here w code s replies) (r : Row) → row_in r (part w code s Run replies).functions (part w code s Run replies).world ≡ r h.frame h.others h.world
row_here h r = ap (λ (t : State). row_in r t.functions t.world) (h.is Run)

-- a row that does there what another does
pub row_like : (w w' : LibWorld) (code : Code) (s s' : StackView) (r q : Row) (x : Focus) → Runs s → MakesTo q w code s x w' s' →
    ((replies : List Reply) (h : Here w code s replies) → r h.frame h.others h.world ≡ q h.frame h.others h.world) → MakesTo r w code s x w' s'
row_like w w' code s s' r q x runs makes same = λ replies.
    let h = here w code s replies runs in
    row_here h r ∙ same replies h ∙ sym (row_here h q) ∙ makes replies

-- a row that leads there to a changed state
pub row_leads : (w w' : LibWorld) (code : Code) (s s' : StackView) (r : Row) (x : Focus) (change : State → State) → Runs s → Becomes change w code s w' s' →
    ((replies : List Reply) (h : Here w code s replies) → r h.frame h.others h.world ≡ Goes [] (change (record { focus = x; functions = h.frame ∷ h.others; world = h.world }))) →
    MakesTo r w code s x w' s'
row_leads w w' code s s' r x change runs becomes same = λ replies.
    let h = here w code s replies runs in
    row_here h r ∙ same replies h ∙ sym (ap (λ t. Goes [] t) (becomes x replies ∙ ap change (h.is x)))

-- or charges a turn first
pub row_charges : (w w' : LibWorld) (code : Code) (s s' : StackView) (r : Row) (x : Focus) (change : State → State) → Runs s → Becomes change w code s w' s' →
    ((replies : List Reply) (h : Here w code s replies) → r h.frame h.others h.world ≡ Charges (change (record { focus = x; functions = h.frame ∷ h.others; world = h.world }))) →
    MakesCharged r w code s x w' s'
row_charges w w' code s s' r x change runs becomes same = λ replies.
    let h = here w code s replies runs in
    row_here h r ∙ same replies h ∙ sym (ap (λ t. Charges t) (becomes x replies ∙ ap change (h.is x)))

-- a place is left behind a wait
pub goes_on : (next : ℕ) (f : machine.Frame) (fs : List machine.Frame) (v : machine.World) → f.purpose ≡ machine.Idle →
    go next f fs v ≡ Goes [] (changed (placed next) (record { focus = Run; functions = f ∷ fs; world = v }))
goes_on next f fs v e = ap (λ p. Goes [] (record { focus = Run; functions = record f { place = next; purpose = p } ∷ fs; world = v })) (sym e)

-- a row that goes on at a place
pub row_passes : (w : LibWorld) (code code' : Code) (s s' : StackView) (r : Row) (next : ℕ) → GoesOn s → code' ≡ code → Becomes (changed (placed next)) w code s w s' →
    ((replies : List Reply) (h : Here w code s replies) → r h.frame h.others h.world ≡ go next h.frame h.others h.world) → Makes r w code s w s'
row_passes w code code' s s' r next goes e becomes same =
    row_leads w w code s s' r Run (changed (placed next)) (runs_on s goes) becomes
    (λ replies h. same replies h ∙ goes_on next h.frame h.others h.world (idle_here h goes))

charged_on : (next : ℕ) (f : machine.Frame) (fs : List machine.Frame) (v : machine.World) → f.purpose ≡ machine.Idle →
    charge next f fs v ≡ Charges (changed (placed next) (record { focus = Run; functions = f ∷ fs; world = v }))
charged_on next f fs v e = ap (λ p. Charges (record { focus = Run; functions = record f { place = next; purpose = p } ∷ fs; world = v })) (sym e)

pub row_passes_charged : (w : LibWorld) (code : Code) (s s' : StackView) (r : Row) (next : ℕ) → GoesOn s → Becomes (changed (placed next)) w code s w s' →
    ((replies : List Reply) (h : Here w code s replies) → r h.frame h.others h.world ≡ charge next h.frame h.others h.world) → MakesCharged r w code s Run w s'
row_passes_charged w code s s' r next goes becomes same =
    row_charges w w code s s' r Run (changed (placed next)) (runs_on s goes) becomes
    (λ replies h. same replies h ∙ charged_on next h.frame h.others h.world (idle_here h goes))

-- ---- jumps

nat_of : ℤ → ℕ
nat_of (pos n) = n
nat_of (negsuc n) = 0

place_of : (p t : ℕ) (by : ℤ) → pos t ≡ pos (p + 1) +ℤ by → (k : ℕ) → by ≡ pos k → t ≡ p + 1 + k
unfolding nat_of
place_of p t by e k is = ap nat_of (e ∙ ap (λ z. pos (p + 1) +ℤ z) is)

-- forward
pub jumps : (p t : ℕ) (by : ℤ) → Ahead p by → pos t ≡ pos (p + 1) +ℤ by → (f : machine.Frame) (fs : List machine.Frame) (v : machine.World) →
    jump by p f fs v ≡ go t f fs v
jumps p t by (k, is, fits) e f fs v =
    ap (λ d. jump d p f fs v) is ∙ ap (λ n. go n f fs v) (sym (place_of p t by e k is))

-- or not
pub branches : (b : Bool) (t next : ℕ) (by : ℤ) (f : machine.Frame) (fs : List machine.Frame) (v : machine.World) → Ahead f.place by →
    pos t ≡ pos (f.place + 1) +ℤ by → branch b by next f fs v ≡ go (cond b t next) f fs v
branches true t next by f fs v ahead e = jumps f.place t by ahead e f fs v
branches false t next by f fs v ahead e = refl

-- back, once a turn was charged
pub jumps_back : (t : ℕ) (to : ℤ) → pos t ≡ to → (f : machine.Frame) (fs : List machine.Frame) (v : machine.World) → jump_back to f fs v ≡ charge t f fs v
jumps_back t to e f fs v = sym (ap (λ z. jump_back z f fs v) e)

-- ---- one of two values

pub decides : (b : Bool) (v u : m.Value) (to next : ℕ) (f : machine.Frame) (fs : List machine.Frame) (x : machine.World) →
    decided b v u to next f fs x ≡ give to (cond b v u) next f fs x
decides true v u to next f fs x = refl
decides false v u to next f fs x = refl

pub meant_cond : (texts : List m.Bytes) (b : Bool) (v u : Value) → meant texts (cond b v u) ≡ cond b (meant texts v) (meant texts u)
meant_cond texts true v u = refl
meant_cond texts false v u = refl

pub usable_cond : (P : Value → Type 0) (b : Bool) (v u : Value) → P v → P u → P (cond b v u)
usable_cond P true v u h k = h
usable_cond P false v u h k = k

-- such a value, where the condition is read and both are
pub decides_on : (texts : List m.Bytes) (b : Bool) (a first second : m.Value) (kept first_kept second_kept chosen : Value) (to next : ℕ) (f : machine.Frame) (fs : List machine.Frame) (x : machine.World) → meant texts kept ≡ a → is_true (meant texts kept) ≡ b → meant texts first_kept ≡ first → meant texts second_kept ≡ second → chosen ≡ cond b first_kept second_kept → decided (is_true a) first second to next f fs x ≡ give to (meant texts chosen) next f fs x
decides_on texts b a first second kept first_kept second_kept chosen to next f fs x e truth is_yes is_no is =
    ap (λ c. decided c first second to next f fs x) (ap is_true (sym e) ∙ truth)
    ∙ decides b first second to next f fs x
    ∙ ap (λ v. give to v next f fs x) (sym (ap (meant texts) is ∙ meant_cond texts b first_kept second_kept ∙ ap (λ v. cond b v (meant texts second_kept)) is_yes ∙ ap (λ v. cond b first v) is_no))

pub number_is : (texts : List m.Bytes) (z : ℤ) → meant texts (value.Num z) ≡ m.Number z
unfolding meant
number_is texts z = refl

-- a row with a constant whose value is known
pub with_known : {w : LibWorld} {code : Code} {s : StackView} {replies : List Reply} (chunk : ChunkOf) (h : Here w code s replies) (k : ℤ) (v : m.Value) (row : m.Value → Row) → known chunk (proto_here w code s) k ≡ Some v → with_constant (known chunk h.frame.proto k) row h.frame h.others h.world ≡ row v h.frame h.others h.world
with_known chunk h k v row is = ap (λ q. with_constant q row h.frame h.others h.world) (ap (λ p. known chunk p k) h.proto ∙ is)

-- rows that jump

pub row_jumps : (w : LibWorld) (code : Code) (s s' : StackView) (r : Row) (by : ℤ) (t : ℕ) → GoesOn s → Ahead (place_here s) by →
    pos t ≡ pos (place_here s + 1) +ℤ by → Becomes (changed (placed t)) w code s w s' →
    ((replies : List Reply) (h : Here w code s replies) → r h.frame h.others h.world ≡ jump by h.frame.place h.frame h.others h.world) → Makes r w code s w s'
row_jumps w code s s' r by t goes ahead e becomes same =
    row_passes w code code s s' r t goes refl becomes
    (λ replies h. same replies h ∙ ap (λ p. jump by p h.frame h.others h.world) h.place ∙ jumps (place_here s) t by ahead e h.frame h.others h.world)

pub row_branches : (w : LibWorld) (code : Code) (s s' : StackView) (b : Bool) (by : ℤ) (t next to : ℕ) → to ≡ cond b t next → GoesOn s → Ahead (place_here s) by →
    pos t ≡ pos (place_here s + 1) +ℤ by → Becomes (changed (placed to)) w code s w s' → Makes (branch b by next) w code s w s'
row_branches w code s s' b by t next to is goes ahead e becomes =
    row_passes w code code s s' (branch b by next) to goes refl becomes
    (λ replies h. branches b t next by h.frame h.others h.world (subst (λ p. Ahead p by) (sym h.place) ahead) (e ∙ ap (λ p. pos (p + 1) +ℤ by) (sym h.place))
    ∙ ap (λ n. go n h.frame h.others h.world) (sym is))

-- a comparison with a constant
pub compares : (w : LibWorld) (v u : Value) (same : Bool) → IsWorld w → MayUseIn w v → MayUseIn w u → kept.same v u ≡ same → model.same (meant w.names v) (meant w.names u) ≡ same
compares w v u b is may may_u e =
    same_kept w.names w.owner is.own.interned.distinct v u (own_value w.names w.globals w.arena w.owner is.own v may) (own_value w.names w.globals w.arena w.owner is.own u may_u) ∙ e

pub compares_on : (w : LibWorld) (test : ℕ) (a : m.Value) (v u : Value) (holds : Bool) (by : ℤ) (next : ℕ) (f : machine.Frame) (fs : List machine.Frame) (x : machine.World) → meant w.names v ≡ a → IsWorld w → MayUseIn w v → MayUseIn w u → holds ≡ agrees (nat_eq (test / 2 ^ 31) 0) (kept.same v u) → jumps_with (test / 2 ^ 31) a (meant w.names u) by next f fs x ≡ branch holds by next f fs x
compares_on w test a v u holds by next f fs x e is may may_u h =
    ap (λ a. jumps_with (test / 2 ^ 31) a (meant w.names u) by next f fs x) (sym e)
    ∙ ap (λ b. branch (agrees (nat_eq (test / 2 ^ 31) 0) b) by next f fs x) (compares w v u (kept.same v u) is may may_u refl)
    ∙ ap (λ b. branch b by next f fs x) (sym h)
