-- The code of names: a local of the function, one of a function around it, or a global.
use Rattle.std.specs.Prelude.{ℕ, zero, suc, ◌+◌, ◌-◌, ◌^◌, min, nat_eq, if◌then◌else◌, Bool, true, false, List, [], ◌∷◌, length, drop, Option, Some, None, slice_get, unwrap_or}
use Rattle.byte_text.specs.declared.fixed.StrId.{StrId}
use Rattle.op_words.specs.declared.insn.Insn.TheVariants as i
use Rattle.syntax_tree.specs.declared.bindings.Bindings.{Bindings}
use Rattle.syntax_tree.specs.declared.bindings.Bound.{Bound}
use Rattle.syntax_tree.specs.declared.bindings.Bound.TheVariants as bound
use Rattle.syntax_tree.specs.declared.bindings.LocalInfo.{LocalInfo}
use Rattle.emit_expr.specs.declared.draft.Draft.{Draft}
use Rattle.emit_expr.specs.declared.draft.Emitter.{Emitter}
use Rattle.emit_expr.specs.declared.draft.Mark.{Mark}
use Rattle.emit_expr.specs.declared.draft.Variable.{Variable}
use Rattle.emit_expr.specs.Puts.{Step, narrow, short, long, insn, declare, forget, text_place, with_text, with_draft, with_prototype, with_child, done}

-- ---- what the bindings say

abbrev pub bound_or : Option (Option Bound) → Bound
bound_or None = bound.Global
bound_or (Some None) = bound.Global
bound_or (Some (Some x)) = x

-- what a name is bound to
abbrev pub bound_at : Bindings → (node : ℕ) → Bound
bound_at b node = bound_or (slice_get b.names node)

-- the number of the first local that a node declares
abbrev pub first_at : Bindings → (node : ℕ) → ℕ
first_at b node = unwrap_or (slice_get b.firsts node) 0

abbrev pub captured_in : Option LocalInfo → Bool
captured_in None = true
captured_in (Some l) = l.captured

-- whether a function further inside captures the local
abbrev pub is_captured : Bindings → (number : ℕ) → Bool
is_captured b number = captured_in (slice_get b.locals number)

-- the locals that a function captures, in the order of its upvalues
abbrev pub upvalues_at : Bindings → (func : ℕ) → List ℕ
upvalues_at b func = unwrap_or (slice_get b.upvalues func) []

-- ---- registers and upvalues

-- the register of a variable in scope
abbrev pub register_in : ℕ → List Variable → Option ℕ
register_in number [] = None
register_in number (v ∷ vs) = if nat_eq v.number number then Some v.register else register_in number vs

abbrev pub register_of : ℕ → Emitter → ℕ
register_of number d = unwrap_or (register_in number d.draft.variables) 0

abbrev pub place_in : ℕ → List ℕ → ℕ
place_in number [] = 0
place_in number (x ∷ xs) = if nat_eq x number then 0 else 1 + place_in number xs

-- the number of a captured local among the upvalues of a function
abbrev pub upvalue_in : Bindings → (func number : ℕ) → ℕ
upvalue_in b func number = narrow (place_in number (upvalues_at b func))

abbrev pub upvalue_of : Bindings → ℕ → Emitter → ℕ
upvalue_of b number d = upvalue_in b d.draft.func number

-- ---- reading and assigning

-- the value of a name, into a register
abbrev pub name_run : Bindings → Bound → StrId → (to : ℕ) → Step
name_run b (bound.Local k) x to d = insn (i.Move to (register_of k d)) d
name_run b (bound.Up k) x to d = insn (i.GetUpvalue to (upvalue_of b k d)) d
name_run b bound.Global x to d = insn (i.GetGlobal to (long (text_place x d))) (with_text x d)

-- a register's value is assigned to a name
abbrev pub assign_run : Bindings → Bound → StrId → (from : ℕ) → Step
assign_run b (bound.Local k) x from d = insn (i.Move (register_of k d) from) d
assign_run b (bound.Up k) x from d = insn (i.SetUpvalue from (upvalue_of b k d)) d
assign_run b bound.Global x from d = insn (i.SetGlobal from (long (text_place x d))) (with_text x d)

-- the local of the function that a name stands for, where nothing captures it: its value stands in its own register
abbrev pub own_of : Bindings → Bound → Option ℕ
own_of b (bound.Local k) = if is_captured b k then None else Some k
own_of b (bound.Up k) = None
own_of b bound.Global = None

-- ---- scopes

-- the number of the local that is declared next
abbrev pub next_number : ℕ → ℕ
next_number n = min (n + 1) (2 ^ 64 - 1)

-- so many locals come in scope, in registers one behind the other
abbrev pub declare_all : (number register count : ℕ) → Step
declare_all number register zero d = d
declare_all number register (suc n) d = declare_all (next_number number) (register + 1) n (declare number register d)

abbrev pub any_captured : Bindings → List Variable → Bool
any_captured b [] = false
any_captured b (v ∷ vs) = if is_captured b v.number then true else any_captured b vs

-- the variables that came in scope since are closed, if a function captures one of them
abbrev pub close_run : Bindings → Mark → Step
close_run b m d = if any_captured b (drop m.variables d.draft.variables) then insn (i.CloseUpvalues m.free) d else d

-- the variables that came in scope since are closed and forgotten
abbrev pub ended : Bindings → Mark → Step
ended b m d = forget m.variables (close_run b m d)

-- ---- closures

-- A variable is captured from its register, or from the function around, which has captured it too
abbrev pub capture_of : Bindings → ℕ → Option ℕ → Step
capture_of b number (Some register) d = insn (i.Capture 1 register) d
capture_of b number None d = insn (i.Capture 2 (upvalue_of b number d)) d

abbrev pub capture : Bindings → ℕ → Step
capture b number d = capture_of b number (register_in number d.draft.variables) d

abbrev pub captures : Bindings → List ℕ → Step
captures b [] d = d
captures b (k ∷ ks) d = captures b ks (capture b k d)

-- The function that was emitted is done, and its closure is made in the one around it
abbrev pub close_over : Bindings → (params : ℕ) → (vararg : Bool) → (to : ℕ) → (outer : Draft) → Step
close_over b params vararg to outer d =
    with_prototype (done params vararg d.draft) (captures b (upvalues_at b d.draft.func) (with_child (length d.protos) (insn (i.NewClosure to (short (length outer.children))) (with_draft outer d))))
