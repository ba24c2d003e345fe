-- What code does, one instruction at a time.
use Rattle.std.specs.Prelude.{ℕ, List, [], ◌∷◌, Option, Some, None}
use Rattle.value_model.specs.Values.{Text}
use Rattle.value_model.specs.Errors.{error_text}
use Rattle.value_model.specs.Waits.{Called, Stuck, innermost}
use Rattle.bounded_runs.specs.Runs.{Goes, Ends}
use Rattle.op_words.specs.declared.insn.Insn.{Insn}
use Rattle.op_words.specs.Decoding.{insn_at}
use Rattle.op_words.specs.Chunks.{ChunkOf, ProtoOf}
use Rattle.machine_meaning.specs.Chunks.{proto_at}
use Rattle.machine_meaning.specs.States.{Focus, Run, Charged, GiveAll, Join, Follow, Invoke, Hand, Fault, Raise, Frame, World, State}
use Rattle.machine_meaning.specs.Moves.{Step, Row, stuck, store_of}
use Rattle.machine_meaning.specs.Calls.{state_with, asks, hand, raise, is_function}
use Rattle.machine_meaning.specs.Effects.{charged, join, follow_names, receive}
use Rattle.machine_meaning.specs.Instructions.{row}

-- the code of a function
abbrev pub code_of : Option ProtoOf → List ℕ
code_of None = []
code_of (Some p) = p.code

-- the instruction that was read is done, where one was
abbrev pub act : ChunkOf → List ℕ → Option (Insn × ℕ) → Row
act chunk code None f fs w = stuck f fs w
act chunk code (Some (insn, next)) f fs w = row chunk code insn next f fs w

abbrev pub act_charged : Option (Insn × ℕ) → Row
act_charged None f fs w = stuck f fs w
act_charged (Some (insn, next)) f fs w = charged insn next f fs w

-- the row of what is done now in the function that runs
abbrev pub rows : ChunkOf → Focus → List ℕ → Row
rows chunk Run code f fs w = act chunk code (insn_at code f.place) f fs w
rows chunk Charged code f fs w = act_charged (insn_at code f.place) f fs w
rows chunk (GiveAll vs) code f fs w = receive f.purpose vs f fs w
rows chunk (Join vs to next) code f fs w = join vs to next f fs w
rows chunk (Follow base names to next) code f fs w = follow_names base names to next f fs w
rows chunk _ code f fs w = stuck f fs w

abbrev pub inside : ChunkOf → Focus → List Frame → World → Step
inside chunk x [] w = Ends [] Stuck
inside chunk x (f ∷ fs) w = rows chunk x (code_of (proto_at chunk f.proto)) f fs w

-- what is done now, where a function may run or not
abbrev pub moves : ChunkOf → Focus → List Frame → World → Step
moves chunk (Invoke by g vs) fs w = asks chunk (Called by g vs) fs w
moves chunk (Hand vs) fs w = hand chunk (is_function (innermost w.waits (store_of w))) vs fs w
moves chunk (Fault e) fs w = Goes [] (state_with (Raise (Text (error_text e))) fs w)
moves chunk (Raise v) fs w = raise chunk (is_function (innermost w.waits (store_of w))) v fs w
moves chunk x fs w = inside chunk x fs w

abbrev pub step : ChunkOf → State → Step
step chunk s = moves chunk s.focus s.functions s.world
