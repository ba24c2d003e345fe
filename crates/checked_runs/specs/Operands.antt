-- What an instruction of well-formed code finds when it is done: its registers, constants, upvalue, child, and the places it leads to.
use Rattle.std.specs.Prelude.{◌≡◌, ℕ, zero, suc, ◌+◌, ◌<◌, ℤ, Bool, true, false, List, length, Option, Some, None, MatchOption}
use Rattle.std.specs.Option.{option_and_then}
use Rattle.value_model.specs.declared.event.Reply.{Reply}
use Rattle.value_model.specs.Fresh.{HostFields}
use Rattle.bounded_runs.specs.Runs.{Goes, Shows, Charges, Ends}
use Rattle.op_words.specs.declared.insn.Insn.{Insn}
use Rattle.op_words.specs.declared.insn.Insn.TheVariants.{NewClosure}
use Rattle.op_words.specs.declared.chunk.Const.{Const}
use Rattle.op_words.specs.Decoding.{insn_at}
use Rattle.op_words.specs.Chunks.{ChunkOf, ProtoOf}
use Rattle.machine_meaning.specs.Chunks.{proto_at}
use Rattle.machine_meaning.specs.Constants.{constant_at}
use Rattle.machine_meaning.specs.Needs.{Range, registers_of, Want, is_wanted, is_sound, constants_of, is_known, is_capture, is_own, upvalue_of, child_of, jump_of, goes_back}
use Rattle.machine_meaning.specs.WellFormed.{is_end, is_closure_or_capture}
use Rattle.machine_meaning.specs.States.{Frame, Focus, Run, Charged, GiveAll, Join, Follow, State}
use Rattle.machine_meaning.specs.Moves.{Step}
use Rattle.machine_meaning.specs.Steps.{step}
use Rattle.machine_meaning.specs.Runs.{loaded}
use Rattle.checked_runs.specs.Places.{IsPlace, LeadsTo, LeadsOn, LeadsBack}
use Rattle.checked_runs.specs.Safe.{Each}

-- each register of a range is the function's own
abbrev pub AreOwn : (size : ℕ) → Range → Type 0
AreOwn size r = (k : ℕ) → k < r.1 → r.0 + k < size

-- the constant that is wanted is there, is of that kind, and is itself well formed
pub record IsConstant (chunk : ChunkOf) (n : ℕ) (k : ℤ) (w : Want) : Type 0 where
  pub constant : Const
  pub is : constant_at chunk n k ≡ Some constant
  pub wanted : is_wanted w (Some constant) ≡ true
  pub sound : is_sound chunk n constant ≡ true

-- the function that a closure is made of
pub record IsChild (chunk : ChunkOf) (p : ProtoOf) (d : ℤ) : Type 0 where
  pub number : ℕ
  pub is : child_of p d ≡ Some number
  pub code : ProtoOf
  pub there : proto_at chunk number ≡ Some code

abbrev pub HasChild : ChunkOf → ProtoOf → Insn → Type 0
HasChild chunk p (NewClosure a d) = IsChild chunk p d
HasChild chunk p insn = Unit {0}

-- the instruction at the place of a function that was entered, with all that it names
pub record HasOperands (chunk : ChunkOf) (f : Frame) : Type 0 where
  pub code : ProtoOf
  pub is : proto_at chunk f.proto ≡ Some code
  pub insn : Insn
  pub next : ℕ
  pub read : insn_at code.code f.place ≡ Some (insn, next)
  pub runs : is_capture insn ≡ false
  pub known : is_known insn ≡ true
  pub own : is_own insn ≡ true
  pub registers : Each (AreOwn f.size) (registers_of insn)
  pub constants : Each (λ k. IsConstant chunk f.proto k.0 k.1) (constants_of insn)
  pub upvalue : MatchOption (upvalue_of insn) (Unit {0}) (λ u. u < length f.upvalues)
  pub child : HasChild chunk code insn
  pub jump : MatchOption (jump_of insn) (Unit {0}) (λ by. LeadsTo code f.place by)
  pub jump_on : goes_back insn ≡ false → MatchOption (jump_of insn) (Unit {0}) (λ by. LeadsOn code f.place by)
  pub jump_back : goes_back insn ≡ true → MatchOption (jump_of insn) (Unit {0}) (λ by. LeadsBack f.place by)
  pub behind : is_end insn ≡ false → is_closure_or_capture insn ≡ false → IsPlace code next

-- the innermost function is at its instruction, or is given what this waits for
abbrev pub is_within : Focus → Bool
is_within Run = true
is_within Charged = true
is_within (GiveAll vs) = true
is_within (Join vs to next) = true
is_within (Follow base names to next) = true
is_within _ = false

-- ---- the states that a run comes to

abbrev pub state_after : Step → Option State
state_after (Goes ns s) = Some s
state_after (Shows ns e s) = Some s
state_after (Charges s) = Some s
state_after (Ends ns e) = None

-- after so many moves
abbrev pub reached : ChunkOf → HostFields → List Reply → (moves : ℕ) → Option State
reached chunk host replies zero = Some (loaded chunk host replies)
reached chunk host replies (suc k) = option_and_then (λ s. state_after (step chunk s)) (reached chunk host replies k)
