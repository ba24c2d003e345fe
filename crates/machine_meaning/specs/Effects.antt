-- What instructions are made of: what one does, and what comes of the calls and turns for which it waits.
use Rattle.std.specs.Prelude.{ℕ, zero, suc, ◌+◌, ◌-◌, ℤ, pos, negsuc, ◌+ℤ◌, Bool, true, false, not, List, [], ◌∷◌, length, Option, Some, None, Result, Ok, Err, slice_get, nat_eq, if◌then◌else◌}
use Rattle.std.specs.Option.{option_and_then}
use Rattle.value_model.specs.declared.builtin.Builtin.{Builtin}
use Rattle.value_model.specs.declared.builtin.Builtin.TheVariants as builtin
use Rattle.value_model.specs.declared.kind.Kind.TheVariants as kind
use Rattle.value_model.specs.declared.operator.ArithOp.{ArithOp}
use Rattle.value_model.specs.declared.operator.CompareOp.{CompareOp}
use Rattle.value_model.specs.Values.{Value, Nil, Number, Text, Table, Closure, TableRef, Bytes, is_true, kind_of}
use Rattle.value_model.specs.Errors.{RunError, IndexWith}
use Rattle.value_model.specs.Store.{TableOf, empty_table, table_at, with_table, next_table, with_new_table, with_new_closure}
use Rattle.value_model.specs.Waits.{ByScript, ByLibrary, Stopped}
use Rattle.value_model.specs.Choices.{Index, Newindex, Arith, Compare, Concat}
use Rattle.value_model.specs.Answers.{LibAnswer, Answers}
use Rattle.value_model.specs.Metamethods.{choose}
use Rattle.value_model.specs.Tables.{set as set_key, same}
use Rattle.value_model.specs.Loops.{Bounds, Range, Refused, Halted, bounds, goes_on, Iteration, Generates, CallsIter, NotIterable}
use Rattle.bounded_runs.specs.Runs.{Ends}
use Rattle.value_model.specs.Library.{lib}
use Rattle.op_words.specs.declared.insn.Insn.{Insn}
use Rattle.op_words.specs.declared.insn.Insn.TheVariants.{Call, Capture, ForNLoop, ForGLoop}
use Rattle.op_words.specs.Decoding.{insn_at}
use Rattle.op_words.specs.Chunks.{ChunkOf, ProtoOf}
use Rattle.machine_meaning.specs.Chunks.{proto_at}
use Rattle.machine_meaning.specs.States.{Purpose, Idle, Results, Into, Compares, Joins, Follows, Stores, Begins, Turns, Frame, Join, Follow, Invoke, World, Inside, value_in, values_in, ended, set, set_all, adjusted, Taken, capture}
use Rattle.machine_meaning.specs.Moves.{Row, now, stuck, go, on, inside, give, store_of, with_store, environment_here, first, rest, saved, settle, fault, jump, return_to, branch}

-- with a constant, or with a name, where it is there
abbrev pub with_constant : Option Value → (Value → Row) → Row
with_constant None row f fs w = stuck f fs w
with_constant (Some v) row f fs w = row v f fs w

abbrev pub with_name : Option Bytes → (Bytes → Row) → Row
with_name None row f fs w = stuck f fs w
with_name (Some bs) row f fs w = row bs f fs w

-- ---- operations

abbrev pub index : (base key : Value) → (to next : ℕ) → Row
index base key to next f fs w = settle (choose (Index base key) (store_of w)) (Into to next) f fs w

abbrev pub newindex : (base key v : Value) → (next : ℕ) → Row
newindex base key v next f fs w = settle (choose (Newindex base key v) (store_of w)) (Stores next) f fs w

abbrev pub calculate : ArithOp → (v u : Value) → (to next : ℕ) → Row
calculate o v u to next f fs w = settle (choose (Arith o v u) (store_of w)) (Into to next) f fs w

abbrev pub compare : CompareOp → (v u : Value) → (jumps : Bool) → (by : ℤ) → (next : ℕ) → Row
compare o v u jumps by next f fs w = settle (choose (Compare o v u) (store_of w)) (Compares jumps by next) f fs w

-- one operand's value
abbrev pub decided : Bool → (yes_value no_value : Value) → (to next : ℕ) → Row
decided true v u to next f fs w = give to v next f fs w
decided false v u to next f fs w = give to u next f fs w

-- ---- imports

abbrev pub follow : Value → Option (List Bytes) → (to next : ℕ) → Row
follow base None to next f fs w = stuck f fs w
follow base (Some names) to next f fs w = now (Follow base names to next) f fs w

-- where the environment is safe, what the import holds, and else what its names lead to
abbrev pub import_of : Bool → Option Value → Option (List Bytes) → (to next : ℕ) → Row
import_of true (Some v) names to next f fs w = give to v next f fs w
import_of _ _ names to next f fs w = follow (Table (environment_here f w)) names to next f fs w

abbrev pub import_at : Frame → World → ℤ → Option Value
import_at f w (pos k) = w.imports f.proto k
import_at f w (negsuc k) = None

-- ---- calls

-- so many values less one from a register on, or all up to the top
abbrev pub list_from : (count from : ℕ) → Frame → World → List Value
list_from zero from f w = values_in f w from (f.top - from)
list_from (suc n) from f w = values_in f w from n

abbrev pub call : (base arguments results next : ℕ) → Row
call base arguments results next f fs w =
    now (Invoke ByScript (value_in f w base) (list_from arguments (base + 1) f w)) (saved (Results base results next) f) fs w

-- a list of values into the registers from one on, up to the top
abbrev pub deliver : (to next : ℕ) → List Value → Row
deliver to next vs f fs w = on (λ g. go next (ended (to + length vs) g)) (set_all to vs (inside f w)) fs

-- so many of the values less one, or all
abbrev pub results : (to count next : ℕ) → List Value → Row
results to zero next vs f fs w = deliver to next vs f fs w
results to (suc n) next vs f fs w = deliver to next (adjusted n vs) f fs w

-- ---- fast calls

-- the library functions that have numbers
abbrev pub numbered : List (ℕ × Builtin)
numbered =
    (1, builtin.Type) ∷ (2, builtin.Typeof) ∷ (3, builtin.Rawget) ∷ (4, builtin.Rawequal) ∷ (5, builtin.Rawlen)
    ∷ (6, builtin.MathAbs)
    ∷ (7, builtin.MathCeil)
    ∷ (8, builtin.MathFloor)
    ∷ (9, builtin.MathRound)
    ∷ (10, builtin.MathSign)
    ∷ (11, builtin.MathMax)
    ∷ (12, builtin.MathMin)
    ∷ (13, builtin.MathClamp)
    ∷ (14, builtin.StringByte)
    ∷ (15, builtin.StringChar)
    ∷ (16, builtin.StringLen)
    ∷ (17, builtin.StringSub)
    ∷ []

abbrev pub under : List (ℕ × Builtin) → ℕ → Option Builtin
under [] n = None
under (b ∷ bs) n = if nat_eq b.0 n then Some b.1 else under bs n

-- the call that is done in its place
abbrev pub finished : Option (Insn × ℕ) → List Value → (next : ℕ) → Row
finished (Some (Call base arguments count, behind)) vs next f fs w = results base count behind vs f fs w
finished _ vs next f fs w = stuck f fs w

-- where the library has values for the arguments, they are the call's; else the code goes on to the call
abbrev pub answered : LibAnswer → Option (Insn × ℕ) → (next : ℕ) → Row
answered (Answers vs s) call next f fs w = finished call vs next f fs (with_store s w)
answered _ call next f fs w = go next f fs w

-- only where the environment is safe
abbrev pub fast : Bool → Option Builtin → List Value → Option (Insn × ℕ) → (next : ℕ) → Row
fast true (Some b) vs call next f fs w = answered (lib b vs (store_of w)) call next f fs w
fast _ b vs call next f fs w = go next f fs w

-- the call so many words on
abbrev pub call_over : List ℕ → Frame → ℕ → Option (Insn × ℕ)
call_over code f over = insn_at code (f.place + 1 + over)

-- its arguments
abbrev pub arguments_of : Option (Insn × ℕ) → Frame → World → List Value
arguments_of (Some (Call base arguments count, behind)) f w = list_from arguments (base + 1) f w
arguments_of _ f w = []

-- ---- tables

-- values are stored from a key on
abbrev pub set_list : Result TableOf RunError → ℕ → List Value → Result TableOf RunError
set_list (Err e) key vs = Err e
set_list (Ok t) key [] = Ok t
set_list (Ok t) key (v ∷ vs) = set_list (set_key t (Number (pos key)) v) (suc key) vs

abbrev pub stored : Result TableOf RunError → TableRef → (next : ℕ) → Row
stored (Ok t) r next f fs w = go next f fs (with_store (with_table (store_of w) r t) w)
stored (Err e) r next f fs w = fault e f fs w

-- what is no table is refused as where it is indexed by a number
abbrev pub store_list : Value → (key : ℕ) → List Value → (next : ℕ) → Row
store_list (Table r) key vs next f fs w = stored (set_list (Ok (table_at (store_of w) r)) key vs) r next f fs w
store_list v key vs next f fs w = fault (IndexWith (kind_of v) kind.Number) f fs w

abbrev pub new_table : (to next : ℕ) → Row
new_table to next f fs w =
    give to (Table (next_table (store_of w))) next f fs (with_store (with_new_table (store_of w) empty_table) w)

-- ---- closures

-- what an instruction captures, and the captures behind it
abbrev pub captured : Option (Insn × ℕ) → Taken → (ℕ → Taken → Option (Taken × ℕ)) → Option (Taken × ℕ)
captured (Some (Capture kind from, next)) t more = more next (capture kind from t)
captured _ t more = None

-- the captures that stand behind a NEWCLOSURE, and the place behind them
abbrev pub captures : List ℕ → (count place : ℕ) → Taken → Option (Taken × ℕ)
captures code zero place t = Some (t, place)
captures code (suc n) place t = captured (insn_at code place) t (λ next u. captures code n next u)

-- a closure has the environment of the one that makes it
abbrev pub closure : (proto : ℕ) → Option (Taken × ℕ) → (to : ℕ) → Row
closure p None to f fs w = stuck f fs w
closure p (Some (t, next)) to f fs w =
    let i = t.inside in
    give to (Closure (length (store_of w).closures)) next i.frame fs (record i.world { objects = with_new_closure i.world.objects (environment_here f w) (record { proto = p; cells = t.taken }) })

abbrev pub child_at : ChunkOf → Frame → ℤ → Option ℕ
child_at chunk f (pos d) = option_and_then (λ (p : ProtoOf). slice_get p.children d) (proto_at chunk f.proto)
child_at chunk f (negsuc d) = None

abbrev pub upvalues_of : Option ProtoOf → ℕ
upvalues_of None = 0
upvalues_of (Some p) = p.upvalues

abbrev pub new_closure : ChunkOf → List ℕ → Option ℕ → (to next : ℕ) → Row
new_closure chunk code None to next f fs w = stuck f fs w
new_closure chunk code (Some p) to next f fs w =
    closure p (captures code (upvalues_of (proto_at chunk p)) next (record { taken = []; inside = inside f w })) to f fs w

-- ---- loops

-- the three numbers are written where they were read
abbrev pub with_bounds : (base : ℕ) → (start limit step : ℤ) → Inside → Inside
with_bounds a i l s x = set (a + 2) (Number i) (set (a + 1) (Number s) (set a (Number l) x))

abbrev pub bounds_in : Frame → World → ℕ → Bounds
bounds_in f w a = bounds (value_in f w (a + 2)) (value_in f w a) (value_in f w (a + 1))

-- a loop is begun, or passed over
abbrev pub begun : Bool → (by : ℤ) → (next : ℕ) → Row
begun true by next f fs w = go next f fs w
begun false by next f fs w = jump by f.place f fs w

abbrev pub prepared : Bounds → (base : ℕ) → (by : ℤ) → (next : ℕ) → Row
prepared (Range i l s) a by next f fs w = on (begun (goes_on i l s) by next) (with_bounds a i l s (inside f w)) fs
prepared (Refused e) a by next f fs w = fault e f fs w
prepared (Halted s) a by next f fs w = Ends [] (Stopped s)

-- a loop goes back
abbrev pub back : (by : ℤ) → Row
back by f fs w = return_to (pos (f.place + 1) +ℤ by) f fs w

abbrev pub again : Bool → (base : ℕ) → (start limit step : ℤ) → (by : ℤ) → (next : ℕ) → Row
again true a i l s by next f fs w = on (back by) (with_bounds a i l s (inside f w)) fs
again false a i l s by next f fs w = go next f fs w

-- the sum is exact, and the loop goes back where it goes on
abbrev pub added : Bounds → (base : ℕ) → (by : ℤ) → (next : ℕ) → Row
added (Range i l s) a by next f fs w = again (goes_on (i +ℤ s) l s) a (i +ℤ s) l s by next f fs w
added (Refused e) a by next f fs w = fault e f fs w
added (Halted s) a by next f fs w = Ends [] (Stopped s)

abbrev pub with_generator : (base : ℕ) → (generator state control : Value) → Inside → Inside
with_generator a g s c x = set (a + 2) c (set (a + 1) s (set a g x))

-- what is asked by a loop, which begins with the asking
abbrev pub iterated : Iteration → (base : ℕ) → (by : ℤ) → Row
iterated (Generates g s c) a by f fs w = on (jump by f.place) (with_generator a g s c (inside f w)) fs
iterated (CallsIter g vs) a by f fs w = now (Invoke ByLibrary g vs) (saved (Begins a by) f) fs w
iterated (NotIterable e) a by f fs w = fault e f fs w

abbrev pub ask : (base variables : ℕ) → (by : ℤ) → (next : ℕ) → Row
ask a x by next f fs w =
    now (Invoke ByScript (value_in f w a) (value_in f w (a + 1) ∷ value_in f w (a + 2) ∷ [])) (saved (Turns a x by next) f) fs w

-- the first value is the next control value, unless it is nil
abbrev pub turned : List Value → (base variables : ℕ) → (by : ℤ) → (next : ℕ) → Row
turned [] a x by next f fs w = go next f fs w
turned (Nil ∷ vs) a x by next f fs w = go next f fs w
turned (v ∷ vs) a x by next f fs w =
    on (back by) (set_all (a + 3) (adjusted x (v ∷ vs)) (set (a + 2) v (inside f w))) fs

-- ---- what is left of an instruction, or of a call

abbrev pub join : List Value → (to next : ℕ) → Row
join [] to next f fs w = stuck f fs w
join (v ∷ []) to next f fs w = give to v next f fs w
join (v ∷ u ∷ vs) to next f fs w = settle (choose (Concat u v) (store_of w)) (Joins vs to next) f fs w

abbrev pub follow_names : Value → List Bytes → (to next : ℕ) → Row
follow_names base [] to next f fs w = give to base next f fs w
follow_names base (x ∷ xs) to next f fs w = settle (choose (Index base (Text x)) (store_of w)) (Follows xs to next) f fs w

-- whether an answer is the one for which a jump is taken
abbrev pub agrees : (wanted : Bool) → Bool → Bool
agrees true b = b
agrees false b = not b

-- the instruction that waits is given the values of a call
abbrev pub receive : Purpose → List Value → Row
receive Idle vs f fs w = stuck f fs w
receive (Results to count next) vs f fs w = results to count next vs f fs w
receive (Into to next) vs f fs w = give to (first vs) next f fs w
receive (Compares jumps by next) vs f fs w = branch (agrees jumps (is_true (first vs))) by next f fs w
receive (Joins us to next) vs f fs w = now (Join (first vs ∷ us) to next) f fs w
receive (Follows xs to next) vs f fs w = now (Follow (first vs) xs to next) f fs w
receive (Stores next) vs f fs w = go next f fs w
receive (Begins a by) vs f fs w = iterated (Generates (first vs) (first (rest vs)) (first (rest (rest vs)))) a by f fs w
receive (Turns a x by next) vs f fs w = turned vs a x by next f fs w

-- what follows the turn that an instruction has charged
abbrev pub charged : Insn → (next : ℕ) → Row
charged (ForNLoop a by) next f fs w = added (bounds_in f w a) a by next f fs w
charged (ForGLoop a by x) next f fs w = ask a x by next f fs w
charged _ next f fs w = stuck f fs w

-- ---- jumps on a comparison with a constant

abbrev pub jumps_with : (negated : ℕ) → (v u : Value) → (by : ℤ) → (next : ℕ) → Row
jumps_with bit v u by next f fs w = branch (agrees (nat_eq bit 0) (same v u)) by next f fs w
