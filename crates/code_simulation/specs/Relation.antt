-- How the state of a script's run and that of its code go together. What operations and calls read, the store, what waits and the
-- replies, is the same in both; closures and cells are told from one another by tags.
use Rattle.std.specs.Prelude.{◌≡◌, ◌≢◌, ◌<◌, ◌≤◌, ◌&&◌, ℕ, not, List, [], ◌∷◌, length, Some, slice_get, slice_index_or}
use Rattle.std.specs.List.{list_any}
use Rattle.byte_text.specs.declared.fixed.StrId.{StrId}
use Rattle.syntax_tree.specs.declared.tree.FuncBody.{FuncBody, out-FuncBody}
use Rattle.value_model.specs.Values.{Value, Nil, TableRef, Bytes}
use Rattle.value_model.specs.Store.{Store, same_table, script_environment, here}
use Rattle.value_model.specs.Waits.{Wait, waiting}
use Rattle.source_meaning.specs.States.{Environment, cell_of}
use Rattle.source_meaning.specs.States as source
use Rattle.source_meaning.specs.Moves as source_moves
use Rattle.op_words.specs.Chunks.{ChunkOf, ProtoOf}
use Rattle.machine_meaning.specs.Chunks.{proto_at}
use Rattle.machine_meaning.specs.States.{Registers}
use Rattle.machine_meaning.specs.States as machine
use Rattle.machine_meaning.specs.Moves as machine_moves
use Rattle.code_simulation.specs.Slots.{Slot, Of, Taken, Tags, Fits, Clear}

abbrev pub at : List Value → ℕ → Value
at cells c = slice_index_or cells c Nil

-- what all functions share, on both sides, and what each cell of the script is
pub record Dyn : Type 0 where
  pub tag : Tags
  pub script : source.World
  pub code : machine.World

abbrev pub cells_s : Dyn → List Value
cells_s d = d.script.objects.cells

abbrev pub cells_m : Dyn → List Value
cells_m d = d.code.objects.cells

abbrev pub bodies_s : Dyn → List source.Body
bodies_s d = d.script.objects.bodies

abbrev pub bodies_m : Dyn → List machine.Body
bodies_m d = d.code.objects.bodies

abbrev pub store_s : Dyn → Store
store_s d = d.script.objects.store

abbrev pub store_m : Dyn → Store
store_m d = d.code.objects.store

-- other cells
abbrev pub changed : Dyn → Tags → (cs cm : List Value) → Dyn
changed d tag cs cm = record { tag = tag; script = source_moves.with_cells cs d.script; code = machine.with_cells cm d.code }

-- another store
abbrev pub stored : Dyn → Store → Dyn
stored d s = record { tag = d.tag; script = source_moves.with_store s d.script; code = machine_moves.with_store s d.code }

-- ---- what the proof is of: the texts of the script's names, the chunk, what it means that a function's code is that of its tree, where
-- these variables are in scope around it and it captures those, and what holds besides with so many turns left while a coroutine runs

-- a change that leaves the other coroutines as they are
pub record Around (co : ℕ) (d d' : Dyn) : Type 0 where
  pub running : (store_s d').running ≡ (store_s d).running
  pub coroutines : (store_s d').coroutines ≡ (store_s d).coroutines
  pub waits : (j : ℕ) → j ≢ co → waiting d'.script.waits j ≡ waiting d.script.waits j
  pub room : length d.script.waits ≤ length d'.script.waits
  pub script : d'.script.elsewhere ≡ d.script.elsewhere
  pub code : d'.code.elsewhere ≡ d.code.elsewhere

-- what a function keeps of the others' cells: those of others stay theirs, and what a closure has taken stays taken
pub record Keeps (co depth : ℕ) (tag tag' : Tags) : Type 0 where
  pub of : (c co' depth' : ℕ) (v : Value) → tag c ≡ Of co' depth' v → (co' ≡ co → depth' ≡ depth → ⊥) → tag' c ≡ Of co' depth' v
  pub taken : (c k : ℕ) → tag c ≡ Taken k → tag' c ≡ Taken k

pub record Setting : Type 1 where
  pub texts : List Bytes
  pub chunk : ChunkOf
  pub IsCode : FuncBody → (proto : ℕ) → (around : Environment) → (captured : List StrId) → ProtoOf → Type 0
  pub Others : (turns co : ℕ) → Dyn → Type 0
  pub others_keep : (turns co depth : ℕ) (d d' : Dyn) → Keeps co depth d.tag d'.tag → Around co d d' → Others turns co d → Others turns co d'
  pub others_later : (fewer turns co : ℕ) (d : Dyn) → fewer ≤ turns → Others turns co d → Others fewer co d

-- ---- functions

-- a captured variable and its cell in the machine
abbrev pub Up : Tags → Environment → StrId → ℕ → Type 0
Up tag env x k = (c : ℕ) × (cell_of env x ≡ Some c) × (tag c ≡ Taken k)

abbrev pub UpsAlike : Tags → Environment → List StrId → List ℕ → Type 0
UpsAlike tag env [] [] = Unit {0}
UpsAlike tag env (y ∷ ys) (k ∷ ks) = Up tag env y k × UpsAlike tag env ys ks
UpsAlike tag env [] (k ∷ ks) = ⊥
UpsAlike tag env (y ∷ ys) [] = ⊥

-- a function's code
pub record Code (p : Setting) (func : FuncBody) (number : ℕ) (around : Environment) (ups : List StrId) (proto : ProtoOf) : Type 0 where
  pub found : proto_at p.chunk number ≡ Some proto
  pub params : proto.params ≡ length (out-FuncBody func).params
  pub vararg : proto.vararg ≡ (out-FuncBody func).vararg
  pub upvalues : proto.upvalues ≡ length ups
  pub code : p.IsCode func number around ups proto

-- a closure of the script and one of the machine
pub record FuncAlike (p : Setting) (tag : Tags) (f : source.Body) (m : machine.Body) : Type 0 where
  pub ups : List StrId
  pub proto : ProtoOf
  pub coded : Code p f.func m.proto f.env ups proto
  pub alike : UpsAlike tag f.env ups m.cells

-- ---- the stores

pub record Base (p : Setting) (d : Dyn) : Type 0 where
  pub store : store_s d ≡ store_m d
  pub waits : d.script.waits ≡ d.code.waits
  pub replies : d.script.replies ≡ d.code.replies
  -- the environments that are safe
  pub safe : (t : TableRef) → (same_table t script_environment && not (list_any (same_table t) d.script.given)) ≡ list_any (same_table t) d.code.marked
  -- a variable's cell holds its value, and one that was taken what the machine's cell holds, which is no other one's
  pub cells : (c co depth : ℕ) (v : Value) → d.tag c ≡ Of co depth v → (c < length (cells_s d)) × (at (cells_s d) c ≡ v)
  pub taken : (c k : ℕ) → d.tag c ≡ Taken k → (c < length (cells_s d)) × (k < length (cells_m d)) × (at (cells_s d) c ≡ at (cells_m d) k)
  pub once : (c c' k : ℕ) → d.tag c ≡ Taken k → d.tag c' ≡ Taken k → c ≡ c'
  -- closures stand at the same places
  pub made : length (bodies_s d) ≡ length (bodies_m d)
  pub alike : (i : ℕ) (f : source.Body) → slice_get (bodies_s d) i ≡ Some f → (m : machine.Body) × (slice_get (bodies_m d) i ≡ Some m) × FuncAlike p d.tag f m

-- ---- functions that were entered

-- the variables around one, those of them that it uses, and the machine's cells of these
pub record Act : Type 0 where
  pub outer : Environment
  pub ups : List StrId
  pub cells : List ℕ

-- a function that waits for another
pub record Desc : Type 0 where
  pub act : Act
  pub slots : List Slot
  pub registers : Registers

pub record Rests (co depth : ℕ) (tag : Tags) (s : Desc) : Type 0 where
  pub fits : Fits co depth tag s.registers s.slots
  pub clear : Clear s.registers (length s.slots)
  pub alike : UpsAlike tag s.act.outer s.act.ups s.act.cells

-- those that wait in a coroutine, the innermost first
abbrev pub AllRest : ℕ → Tags → List Desc → Type 0
AllRest co tag [] = Unit {0}
AllRest co tag (s ∷ ss) = Rests co (length ss) tag s × AllRest co tag ss

-- With so many turns left the states go together, where this coroutine runs, these wait in it, and its functions that wait are these
pub record Ok (p : Setting) (turns co : ℕ) (ws : List Wait) (roots : List Desc) (d : Dyn) : Type 0 where
  pub base : Base p d
  pub running : here (store_s d) ≡ co
  pub room : co < length d.script.waits
  pub waits : waiting d.script.waits co ≡ ws
  pub rest : AllRest co d.tag roots
  pub others : p.Others turns co d

-- all of this where a function runs
pub record Holds (p : Setting) (turns co : ℕ) (ws : List Wait) (roots : List Desc) (a : Act) (l : List Slot) (d : Dyn) (regs : Registers) : Type 0 where
  pub ok : Ok p turns co ws roots d
  pub fits : Fits co (length roots) d.tag regs l
  pub clear : Clear regs (length l)
  pub alike : UpsAlike d.tag a.outer a.ups a.cells

-- the same where registers above may still be open
pub record Loosely (p : Setting) (turns co : ℕ) (ws : List Wait) (roots : List Desc) (a : Act) (l : List Slot) (d : Dyn) (regs : Registers) : Type 0 where
  pub ok : Ok p turns co ws roots d
  pub fits : Fits co (length roots) d.tag regs l
  pub alike : UpsAlike d.tag a.outer a.ups a.cells
