-- What must hold of a script's stack beside its world.
use Rattle.std.specs.Prelude.{◌≡◌, ℕ, zero, suc, ℤ, pos, negsuc, ◌+◌, ◌<◌, ◌≤◌, ◌^◌, IsSomeAnd, IfSome, true, List, [], ◌∷◌, length, Option, Some, None}
use Rattle.std.specs.List.{AllByRecursion}
use Rattle.byte_text.specs.declared.fixed.StrId.{StrId}
use Rattle.value_model.specs.Owners.{wide}
use Rattle.value_model.specs.declared.builtin.Builtin.{Builtin}
use Rattle.value_model.specs.declared.builtin.Builtin.TheVariants as builtin
use Rattle.value_model.specs.declared.ids.CellId.{CellId}
use Rattle.value_model.specs.declared.ids.ClosureId.{ClosureId}
use Rattle.value_model.specs.declared.ids.Owner.{Owner}
use Rattle.value_model.specs.declared.ids.Owner.TheVariants.{Frozen}
use Rattle.value_model.specs.declared.ids.TableId.{TableId}
use Rattle.value_model.specs.declared.value.Value.{Value}
use Rattle.value_arena.specs.Arenas.{ArenaView, HasClosure, objects_of, table_at, closure_at}
use Rattle.luau_tables.specs.Worlds.{IsWorld, MayUseIn}
use Rattle.luau_tables.specs.declared.globals.LibWorld.{LibWorld}
use Rattle.call_frames.specs.declared.frame.Frame.{Frame}
use Rattle.call_frames.specs.declared.frame.OpenCell.{OpenCell}
use Rattle.call_frames.specs.declared.frame.ReturnKind.{ReturnKind}
use Rattle.call_frames.specs.declared.frame.ReturnKind.TheVariants as kind
use Rattle.call_frames.specs.declared.frame.ReturnKind.TheVariants.{Idle}
use Rattle.call_frames.specs.Stacks.{StackView}
use Rattle.call_frames.specs.Cells.{innermost}
use Rattle.value_model.specs.declared.event.Reply.{Reply}
use Rattle.machine_meaning.specs.States.{Focus}
use Rattle.machine_code.specs.declared.code.Code.{Code}
use Rattle.machine_world.specs.Parts.{part, read_of, upvalue_cell}

-- how many cells an owner has
abbrev pub cell_count : Owner → ArenaView → ℕ
cell_count w a = length (objects_of a w).cells

-- a cell of the owner
abbrev pub IsCell : Owner → ArenaView → CellId → Type 0
IsCell w a c = (wide c.owner ≡ w) × (c.place < cell_count w a)

-- each open cell is one of the owner's, of which there are so many
abbrev pub AreOf : (w : Owner) → (count : ℕ) → List OpenCell → Type 0
AreOf w n [] = Unit {0}
AreOf w n (o ∷ os) = (wide o.cell.owner ≡ w) × (o.cell.place < n) × AreOf w n os

-- the register is one of a frame's own, and none of its variable arguments
pub data IsOwnOf : List Frame → ℕ → Type 0 where
  first : {f : Frame} {fs : List Frame} {r : ℕ} → f.base ≤ r → r < f.base + f.registers → IsOwnOf (f ∷ fs) r
  later : {f : Frame} {fs : List Frame} {r : ℕ} → IsOwnOf fs r → IsOwnOf (f ∷ fs) r

abbrev pub AreOwn : List Frame → List OpenCell → Type 0
AreOwn fs [] = Unit {0}
AreOwn fs (o ∷ os) = IsOwnOf fs o.register × AreOwn fs os

-- a frame's function is one of the owner's, and is there
abbrev pub IsFunctionOf : Owner → ArenaView → Frame → Type 0
IsFunctionOf w a f = IfSome f.closure (λ (c : ClosureId). (wide c.owner ≡ w) × HasClosure a c)

-- ---- what frames wait for

-- the function asks for the texts of its arguments
abbrev pub AsksForTexts : Builtin → Type 0
AsksForTexts builtin.Print = Unit {0}
AsksForTexts builtin.Tostring = Unit {0}
AsksForTexts builtin.StringFormat = Unit {0}
AsksForTexts _ = ⊥

-- What a Luau function may wait for: the script may use the operands that are left to be joined, and names have their numbers
abbrev pub MayWaitInCode : LibWorld → ReturnKind → Type 0
MayWaitInCode w kind.Idle = Unit {0}
MayWaitInCode w (kind.Call to results next) = Unit {0}
MayWaitInCode w (kind.Answer to next) = Unit {0}
MayWaitInCode w (kind.Store next) = Unit {0}
MayWaitInCode w (kind.Jump by wanted next) = Unit {0}
MayWaitInCode w (kind.Join to left next) = AllByRecursion (MayUseIn w) left
MayWaitInCode w (kind.Import to names next) = AllByRecursion (λ (x : StrId). x.0 < length w.names) names
MayWaitInCode w (kind.Iterate base by) = Unit {0}
MayWaitInCode w (kind.Turn base variables by next) = Unit {0}
MayWaitInCode w _ = ⊥

-- What a library function may wait for: the script may use the handler, and the arguments, among which the one whose text was asked is
abbrev pub MayWaitInLibrary : LibWorld → ReturnKind → Type 0
MayWaitInLibrary w (kind.Protected handler) = IfSome handler (MayUseIn w)
MayWaitInLibrary w kind.Handler = Unit {0}
MayWaitInLibrary w (kind.Library rest) =
    AsksForTexts rest.builtin × (rest.at < length rest.args.items) × AllByRecursion (MayUseIn w) rest.args.items
MayWaitInLibrary w _ = ⊥

abbrev pub MayWaitIn : LibWorld → Option ClosureId → ReturnKind → Type 0
MayWaitIn w None k = MayWaitInLibrary w k
MayWaitIn w (Some c) k = MayWaitInCode w k

abbrev pub MayWait : LibWorld → Frame → Type 0
MayWait w f = MayWaitIn w f.closure f.kind

-- ---- all of it

-- The script comes to its own objects alone, and to what nobody owns. Its own cells are open, each on an own register of a frame.
-- Each frame waits for what it may. Only its environment may be marked, and its main function's own run goes on.
pub record IsMachine (w : LibWorld) (s : StackView) : Type 0 where
  pub world : IsWorld w
  pub cells : AreOf w.owner (cell_count w.owner w.arena) s.cells
  pub own : AreOwn s.frames s.cells
  pub values : AllByRecursion (MayUseIn w) s.registers
  pub functions : AllByRecursion (IsFunctionOf w.owner w.arena) s.frames
  pub kinds : AllByRecursion (MayWait w) s.frames
  pub shared : (objects_of w.arena Frozen).cells ≡ []
  pub main : w.arena.running ≡ None
  pub marks : (t : TableId) → (table_at w.arena t).is_marked ≡ true → (wide t.owner ≡ w.owner) × (t.place ≡ 0)

-- what a script might use it may use then
abbrev pub UsesStay : (before after : LibWorld) → Type 0
UsesStay w w' = (v : Value) → MayUseIn w v → MayUseIn w' v

-- ---- what calls ask for

-- a frame of a Luau function
abbrev pub IsLuau : Frame → Type 0
IsLuau f = IsSomeAnd f.closure (λ c. Unit {0})

-- a frame of a library function
abbrev pub IsLibrary : Frame → Type 0
IsLibrary f = f.closure ≡ None

-- a Luau function runs
abbrev pub Runs : StackView → Type 0
Runs s = IsSomeAnd (innermost s) IsLuau

-- a library function waits innermost
abbrev pub LibraryWaits : StackView → Type 0
LibraryWaits s = IsSomeAnd (innermost s) IsLibrary

-- and does so
abbrev pub LibraryWaitsFor : StackView → ReturnKind → Type 0
LibraryWaitsFor s kind = IsSomeAnd (innermost s) (λ f. IsLibrary f × (f.kind ≡ kind))

-- a Luau function runs and has the register
abbrev pub HasRegister : StackView → ℕ → Type 0
HasRegister s r = IsSomeAnd (innermost s) (λ f. IsLuau f × (r < f.registers))

-- a Luau function runs and has the upvalue
abbrev pub HasUpvalue : ArenaView → StackView → ℕ → Type 0
HasUpvalue a s u =
    IsSomeAnd (innermost s) (λ f. IsSomeAnd f.closure (λ c. u < length (closure_at a c).cells))

-- the cell is that of an upvalue
pub record Up (w : LibWorld) (code : Code) (s : StackView) (u : ℕ) (c : CellId) : Type 0 where
  pub cell : IsCell w.owner w.arena c
  pub place : (x : Focus) (replies : List Reply) → c.place ≡ read_of 0 (upvalue_cell u) (part w code s x replies)

-- a Luau function runs and has the register, or it is the one behind its last
abbrev pub HasPlaceOf : StackView → ℕ → Type 0
HasPlaceOf s r = IsSomeAnd (innermost s) (λ f. IsLuau f × (r ≤ f.registers))

-- so many values less one from a register on are among its own, or the list of values that begins there begins no further on
abbrev pub ReachesTo : (count from registers : ℕ) → Type 0
ReachesTo zero from n = from ≤ n
ReachesTo (suc k) from n = from + k ≤ n

abbrev pub HasList : StackView → (count from : ℕ) → Type 0
HasList s count from =
    IsSomeAnd (innermost s) (λ f. IsLuau f × ReachesTo count from f.registers)

-- a Luau function runs, and waits for no call
abbrev pub GoesOn : StackView → Type 0
GoesOn s = IsSomeAnd (innermost s) (λ f. IsLuau f × (f.kind ≡ Idle))

-- a Luau function runs, and waits for a call so
abbrev pub WaitsFor : StackView → ReturnKind → Type 0
WaitsFor s kind = IsSomeAnd (innermost s) (λ f. IsLuau f × (f.kind ≡ kind))

-- ---- places

-- so many words behind the word at a place there may be an instruction
abbrev pub Ahead : (place : ℕ) → (by : ℤ) → Type 0
Ahead place by = (k : ℕ) × (by ≡ pos k) × (place + 1 + k < 2 ^ 64)

-- so many words before the one behind a place there is a word
abbrev pub Back : (place : ℕ) → (by : ℤ) → Type 0
Back place by = (k : ℕ) × (by ≡ negsuc k) × (k ≤ place)
