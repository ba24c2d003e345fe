-- The upvalues that the code of each function names are the function's own.
use Rattle.std.specs.Prelude.{◌≡◌, ◌<◌, ◌≤◌, ◌^◌, ℕ, List, [], ◌∷◌, length, Option, Some, None}
use Rattle.code_link.specs.declared.item.Item.{Item}
use Rattle.code_link.specs.declared.item.Item.TheVariants.{Insn, Branch, Label}
use Rattle.machine_meaning.specs.Needs.{upvalue_of}
use Rattle.syntax_tree.specs.declared.bindings.Bindings.{Bindings}
use Rattle.syntax_tree.specs.declared.tree.FuncBody.{FuncBody}
use Rattle.syntax_tree.specs.Bound.{bound, faults}
use Rattle.syntax_tree.specs.Numbers.{numbered}
use Rattle.emit_expr.specs.declared.draft.Prototype.{Prototype}
use Rattle.emit_expr.specs.Names.{upvalues_at}
use Rattle.node_code.specs.Code.{script_code}

-- of so many upvalues
abbrev pub IsUpvalue : (count : ℕ) → Option ℕ → Type 0
IsUpvalue count None = Unit {0}
IsUpvalue count (Some n) = n < count

abbrev pub AreUpvalues : (count : ℕ) → List Item → Type 0
AreUpvalues count [] = Unit {0}
AreUpvalues count (Insn i ∷ is) = IsUpvalue count (upvalue_of i) × AreUpvalues count is
AreUpvalues count (Branch i l ∷ is) = IsUpvalue count (upvalue_of i) × AreUpvalues count is
AreUpvalues count (Label l ∷ is) = AreUpvalues count is

-- in each function
abbrev pub AllUpvalues : Bindings → List Prototype → Type 0
AllUpvalues b [] = Unit {0}
AllUpvalues b (p ∷ ps) = AreUpvalues (length (upvalues_at b p.func)) p.items × AllUpvalues b ps

-- so it is with a script whose locals are few enough to have numbers
abbrev pub UpvaluesFit : Type 0
UpvaluesFit = (main : FuncBody) → length (bound (numbered main)).locals < 2 ^ 64 →
    AllUpvalues (bound (numbered main)) (script_code (bound (numbered main)) (numbered main).main).protos

-- a function of a script that breaks no rule has few of them
abbrev pub UpvaluesAreFew : Type 0
UpvaluesAreFew = (main : FuncBody) → faults (numbered main) ≡ [] → (func : ℕ) → length (upvalues_at (bound (numbered main)) func) ≤ 200
