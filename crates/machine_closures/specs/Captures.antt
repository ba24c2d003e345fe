-- What a closure captures.
use Rattle.std.specs.Prelude.{◌≡◌, ℕ, zero, suc, ◌<◌, List, [], length}
use Rattle.value_model.specs.declared.event.Reply.{Reply}
use Rattle.value_model.specs.declared.ids.CellId.{CellId}
use Rattle.value_arena.specs.Growing.{Grows}
use Rattle.luau_tables.specs.declared.globals.LibWorld.{LibWorld}
use Rattle.call_frames.specs.Stacks.{StackView}
use Rattle.machine_meaning.specs.States.{Run, Focus, Inside, Taken, capture}
use Rattle.machine_code.specs.declared.code.Code.{Code}
use Rattle.machine_world.specs.Parts.{Becomes, changed, first_cell, part, read_of}
use Rattle.machine_world.specs.Sound.{IsCell, IsMachine}

-- what may be captured in a function with so many registers and upvalues
abbrev pub MayCapture : (registers upvalues : ℕ) → (kind from : ℕ) → Type 0
MayCapture n m zero r = r < n
MayCapture n m (suc zero) r = r < n
MayCapture n m (suc (suc k)) u = u < m

-- the function that runs has so many
abbrev pub size_here : LibWorld → Code → StackView → ℕ
size_here w code s = read_of 0 (λ i. i.frame.size) (part w code s Run [])

abbrev pub upvalues_here : LibWorld → Code → StackView → ℕ
upvalues_here w code s = read_of 0 (λ i. length i.frame.upvalues) (part w code s Run [])

-- what is captured
abbrev pub taken_by : (kind from : ℕ) → Inside → Taken
taken_by kind from i = capture kind from (record { taken = []; inside = i })

abbrev pub inside_by : (kind from : ℕ) → Inside → Inside
inside_by kind from i = (taken_by kind from i).inside

abbrev pub cell_by : (kind from : ℕ) → Inside → ℕ
cell_by kind from i = first_cell (taken_by kind from i).taken

-- the cell is captured, and the state then is the definition's
pub record Captured (w : LibWorld) (code : Code) (s : StackView) (kind from : ℕ) (w' : LibWorld) (s' : StackView) (c : CellId) : Type 0 where
  pub becomes : Becomes (changed (inside_by kind from)) w code s w' s'
  pub place : (x : Focus) (replies : List Reply) → c.place ≡ read_of 0 (cell_by kind from) (part w code s x replies)
  pub own : IsCell w'.owner w'.arena c
  pub sound : IsMachine w' s'
  pub frames : s'.frames ≡ s.frames
  pub world : w' ≡ record w { arena = w'.arena }
  pub grows : Grows w.arena w'.arena
