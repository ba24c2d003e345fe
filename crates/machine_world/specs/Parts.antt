-- What a script's running state means.
use Rattle.std.specs.Prelude.{◌≡◌, ℕ, zero, suc, ◌-◌, List, [], ◌∷◌, map, reverse, replicate, length, if◌then◌else◌, Option, slice_get, slice_index_or, slice_set, ◌+◌}
use Rattle.std.specs.Option.{option_map, option_and_then}
use Rattle.value_model.specs.Parts.{meant}
use Rattle.value_model.specs.Values as m
use Rattle.value_model.specs.Values.{Bytes}
use Rattle.value_model.specs.Store.{script_environment}
use Rattle.value_model.specs.Waits.{Wait, Waits, Runs, leave, await}
use Rattle.value_model.specs.declared.event.Reply.{Reply}
use Rattle.value_model.specs.declared.ids.Owner.{Owner}
use Rattle.value_model.specs.declared.ids.TableId.{TableId}
use Rattle.value_arena.specs.Arenas.{objects_of, narrow, table_at}
use Rattle.luau_tables.specs.Worlds.{store_in}
use Rattle.luau_tables.specs.declared.globals.LibWorld.{LibWorld}
use Rattle.call_frames.specs.declared.frame.Frame.{Frame}
use Rattle.call_frames.specs.Stacks.{StackView}
use Rattle.machine_meaning.specs.States as machine
use Rattle.machine_meaning.specs.States.{Purpose, Focus, Body, Inside, State, World, Taken, value_in, cell_up, with_cells, capture, closed, set_all, ended, filled}
use Rattle.machine_meaning.specs.Moves.{inside, saved, store_of}
use Rattle.machine_meaning.specs.Calls.{without_first}
use Rattle.machine_meaning.specs.Effects.{list_from}
use Rattle.machine_world.specs.Functions.{body_of, wait_of, functions_of, cells_of}
use Rattle.machine_code.specs.declared.code.Code.{Code}
use Rattle.machine_code.specs.declared.code.Function.{Function}

-- ---- what all functions share

-- The environment of a script is its first table. No other table is marked as safe
abbrev pub environment_id : Owner → TableId
environment_id w = record { owner = narrow w; place = 0 }

abbrev pub marked_in : LibWorld → List m.TableRef
marked_in w =
    if (table_at w.arena (environment_id w.owner)).is_marked then script_environment ∷ [] else []

-- what an import constant holds
abbrev pub import_in : (texts : List Bytes) → Function → ℕ → Option m.Value
import_in texts f k = option_map (meant texts) (option_and_then (λ v. v) (slice_get f.imports k))

abbrev pub imports_in : (texts : List Bytes) → Code → (proto constant : ℕ) → Option m.Value
imports_in texts code p k = option_and_then (λ f. import_in texts f k) (slice_get code.functions p)

-- What waits in the main function's own run stands in the stack. Nothing waits in another coroutine, as none runs
abbrev pub waits_in : LibWorld → List Frame → Waits
waits_in w fs = map (wait_of w.names) (reverse fs) ∷ replicate (length (objects_of w.arena w.owner).threads - 1) []

-- ---- the state

-- with these frames and cells
abbrev pub world_with : LibWorld → Code → List Frame → List Reply → List m.Value → World
world_with w code fs replies cells =
    record {
      objects = record { store = store_in w; bodies = map body_of (objects_of w.arena w.owner).closures; cells = cells };
      waits = waits_in w fs;
      elsewhere = λ co. [];
      marked = marked_in w;
      imports = imports_in w.names code;
      replies = replies;
    }

-- and these functions
abbrev pub state_with : LibWorld → Code → List Frame → Focus → List Reply → List machine.Frame → List m.Value → State
state_with w code fs x replies functions cells =
    record { focus = x; functions = functions; world = world_with w code fs replies cells }

-- what a stack means beside a world, where this is done now, and these replies are left
unfoldable pub part : LibWorld → Code → StackView → Focus → List Reply → State
part w code s x replies =
    state_with w code s.frames x replies (functions_of w.names (objects_of w.arena w.owner).closures s) (cells_of w.names w.owner s w.arena)

-- ---- changes

-- the function that runs is changed, and what all share
abbrev pub changed_in : (Inside → Inside) → Focus → List machine.Frame → World → State
changed_in change x [] w = record { focus = x; functions = []; world = w }
changed_in change x (f ∷ fs) w =
    let i = change (inside f w) in record { focus = x; functions = i.frame ∷ fs; world = i.world }

abbrev pub changed : (Inside → Inside) → State → State
changed change s = changed_in change s.focus s.functions s.world

-- what is read of it
abbrev pub read_in : {A : Type 0} → A → (Inside → A) → List machine.Frame → World → A
read_in none read [] w = none
read_in none read (f ∷ fs) w = read (inside f w)

abbrev pub read_of : {A : Type 0} → A → (Inside → A) → State → A
read_of none read s = read_in none read s.functions s.world

abbrev pub register_value : ℕ → Inside → m.Value
register_value r i = value_in i.frame i.world r

-- the cell of an upvalue, what it holds, and a write of it
abbrev pub upvalue_cell : ℕ → Inside → ℕ
upvalue_cell u i = cell_up i.frame u

abbrev pub upvalue : ℕ → Inside → m.Value
upvalue u i = slice_index_or i.world.objects.cells (cell_up i.frame u) m.Nil

abbrev pub set_upvalue : ℕ → m.Value → Inside → Inside
set_upvalue u v i =
    record i { world = with_cells (slice_set i.world.objects.cells (cell_up i.frame u) v) i.world }

-- a register's cell is opened, if need be
abbrev pub captured : ℕ → Inside → Taken
captured r i = capture 1 r (record { taken = []; inside = i })

abbrev pub first_cell : List ℕ → ℕ
first_cell [] = 0
first_cell (c ∷ cs) = c

abbrev pub captured_cell : ℕ → Inside → ℕ
captured_cell r i = first_cell (captured r i).taken

-- the open cells of the registers from one on are closed
abbrev pub close : ℕ → Inside → Inside
close from i =
    record i { frame = record i.frame { registers = closed i.world.objects.cells i.frame.registers from } }

-- the code goes on at a place
abbrev pub placed : ℕ → Inside → Inside
placed place i = record i { frame = record i.frame { place = place } }

-- it waits for no call
abbrev pub awake : Inside → Inside
awake i = record i { frame = record i.frame { purpose = machine.Idle } }

-- values into the registers from one on, up to the top
abbrev pub delivered : ℕ → List m.Value → Inside → Inside
delivered to vs i = let j = set_all to vs i in record j { frame = ended (to + length vs) j.frame }

-- so many values less one from a register on, or all up to the top
abbrev pub list_of : (count from : ℕ) → Inside → List m.Value
list_of count from i = list_from count from i.frame i.world

-- how many these are, from a place on
abbrev pub span : (count top at : ℕ) → ℕ
span zero top at = top - at
span (suc n) top at = n

-- it waits for a call
abbrev pub waits : Purpose → Inside → Inside
waits p i = record i { frame = saved p i.frame }

-- the innermost function is left, and no longer waits
abbrev pub left : State → State
left s =
    record s {
      functions = without_first s.functions;
      world = record s.world { waits = leave s.world.waits (store_of s.world) };
    }

-- a library function waits for the values of a call
abbrev pub awaited : Wait → State → State
awaited k s = record s { world = record s.world { waits = await k s.world.waits (store_of s.world) } }

-- and no longer
abbrev pub over : State → State
over s = record s { world = record s.world { waits = leave s.world.waits (store_of s.world) } }

abbrev pub body_in : State → (closure : ℕ) → Body
body_in s c = slice_index_or s.world.objects.bodies c (record { proto = 0; cells = [] })

-- a function is entered with so many registers, of which the first are given, and with variable arguments
abbrev pub entered : (closure size : ℕ) → (given extra : List m.Value) → State → State
entered c n given extra s =
    record s {
      functions = record {
        closure = c;
        proto = (body_in s c).proto;
        size = n;
        upvalues = (body_in s c).cells;
        varargs = extra;
        place = 0;
        registers = filled 0 given;
        top = length given;
        purpose = machine.Idle;
      } ∷ s.functions;
      world = record s.world { waits = await (Runs c) s.world.waits (store_of s.world) };
    }

-- whatever is done now, and whichever replies are left
abbrev pub Becomes : (State → State) → LibWorld → Code → StackView → LibWorld → StackView → Type 0
Becomes change w code s w' s' = (x : Focus) (replies : List Reply) → part w' code s' x replies ≡ change (part w code s x replies)
