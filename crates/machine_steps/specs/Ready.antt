-- What an instruction finds in the function that runs.
use Rattle.std.specs.Prelude.{◌≡◌, ℕ, ◌+◌, ◌<◌, ℤ, pos, negsuc, Bool, true, false, List, length, Option, Some, IsSomeAnd, MatchOption, slice_get, nat_le}
use Rattle.std.specs.Option.{option_and_then, option_map_or}
use Rattle.op_words.specs.declared.insn.Insn.{Insn}
use Rattle.op_words.specs.declared.insn.Insn.TheVariants.{GetVarargs}
use Rattle.op_words.specs.Chunks.{ChunkOf, ProtoOf}
use Rattle.op_words.specs.Decoding.{insn_at}
use Rattle.value_model.specs.Values.{Bytes}
use Rattle.luau_tables.specs.declared.globals.LibWorld.{LibWorld}
use Rattle.call_frames.specs.declared.frame.Frame.{Frame}
use Rattle.call_frames.specs.Stacks.{StackView}
use Rattle.call_frames.specs.Cells.{innermost}
use Rattle.machine_meaning.specs.Chunks.{proto_at}
use Rattle.machine_meaning.specs.Needs.{Range, Want, AnImport, registers_of, constants_of, is_own, is_known, is_capture, upvalue_of, jump_of, goes_back}
use Rattle.checked_runs.specs.Safe.{Each}
use Rattle.checked_runs.specs.Operands.{IsConstant as IsConstantOf}
use Rattle.machine_code.specs.Code.{IsCodeOf, IsConstant}
use Rattle.machine_code.specs.declared.code.Code.{Code}
use Rattle.machine_code.specs.declared.code.Function.{Function}
use Rattle.machine_code.specs.declared.code.Line.{Line}
use Rattle.machine_world.specs.Rows.{place_here, proto_here}
use Rattle.machine_world.specs.Sound.{HasRegister, HasUpvalue, Ahead, Back}

-- ---- the code of the function that runs

abbrev pub function_here : LibWorld → Code → StackView → Option Function
function_here w code s = slice_get code.functions (proto_here w code s)

-- what stands at the place of its instruction
abbrev pub HasLine : LibWorld → Code → StackView → Type 0
HasLine w code s = IsSomeAnd (function_here w code s) (λ f. place_here s < length f.lines)

abbrev pub line_here : LibWorld → Code → StackView → Option Line
line_here w code s = option_and_then (λ (f : Function). slice_get f.lines (place_here s)) (function_here w code s)

-- ---- what an instruction needs of the machine

-- each register of a range is the function's own
abbrev pub AreOwn : StackView → Range → Type 0
AreOwn s r = (k : ℕ) → k < r.1 → HasRegister s (r.0 + k)

-- a constant of that index is there, and is no object
abbrev pub HasConstant : (texts : List Bytes) → Option Function → ℤ → Type 0
HasConstant texts f (pos k) = IsSomeAnd f (λ f. IsSomeAnd (slice_get f.consts k) (IsConstant texts))
HasConstant texts f (negsuc k) = ⊥

-- an index, and not a number below 0
abbrev pub IsIndex : ℤ → Type 0
IsIndex z = (k : ℕ) × (z ≡ pos k)

-- a constant that has a value is wanted
abbrev pub is_value : Want → Bool
is_value (AnImport word) = false
is_value w = true

-- a jump goes the way that it must
abbrev pub Jumps : (back : Bool) → (place : ℕ) → (by : ℤ) → Type 0
Jumps true place by = Back place by
Jumps false place by = Ahead place by

pub record IsReady (w : LibWorld) (code : Code) (s : StackView) (insn : Insn) : Type 0 where
  pub runs : is_capture insn ≡ false
  pub known : is_known insn ≡ true
  pub own : is_own insn ≡ true
  pub registers : Each (AreOwn s) (registers_of insn)
  pub constants : Each (λ k. HasConstant w.names (function_here w code s) k.0) (constants_of insn)
  pub upvalue : MatchOption (upvalue_of insn) (Unit {0}) (HasUpvalue w.arena s)
  pub jump : MatchOption (jump_of insn) (Unit {0}) (Jumps (goes_back insn) (place_here s))

-- ---- the chunk

-- Code is that of the chunk, and the function that runs is this one of its functions. It stands at this instruction, which names
-- constants that the chunk has
pub record StandsAt (chunk : ChunkOf) (p : ProtoOf) (w : LibWorld) (code : Code) (s : StackView) (insn : Insn) (next : ℕ) : Type 0 where
  pub of : IsCodeOf chunk w.names code
  pub there : proto_at chunk (proto_here w code s) ≡ Some p
  pub read : insn_at p.code (place_here s) ≡ Some (insn, next)
  pub constants : Each (λ k. IsConstantOf chunk (proto_here w code s) k.0 k.1) (constants_of insn)

-- ---- lists of values

-- a register is one of the function that runs, or the one behind them
abbrev pub reaches : StackView → (register : ℕ) → Bool
reaches s r = option_map_or (λ (f : Frame). nat_le r f.registers) (innermost s) false

-- no list of values is made that begins further on
abbrev pub BeginsWithin : StackView → Insn → Type 0
BeginsWithin s (GetVarargs base values) = reaches s base ≡ true
BeginsWithin s insn = Unit {0}
