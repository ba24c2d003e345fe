-- Runs with a bound on their turns. A machine is a function from each of its states to the move that it makes there. It may be
-- the meaning of source or that of code: both are run so.
use Rattle.std.specs.Prelude.{◌≡◌, ℕ, zero, suc, ◌+◌, List, [], ◌∷◌, ◌++◌, Option, Some, None}
use Rattle.value_model.specs.Waits.{End, Unfinished}

-- a move: what it shows, and what it notes, which no later move can read
pub data Move (E N S : Type 0) : Type 0 where
  Goes : (notes : List N) → (next : S) → Move E N S
  Shows : (notes : List N) → (event : E) → (next : S) → Move E N S
  -- a turn is charged before anything is done
  Charges : (next : S) → Move E N S
  Ends : (notes : List N) → (end : End) → Move E N S

-- an event, with the turns that were spent before it
pub record Stamped (E : Type 0) : Type 0 where
  pub turns : ℕ
  pub event : E

-- what is known of a run when it is over
pub record Report (E N : Type 0) : Type 0 where
  pub end : End
  pub events : List (Stamped E)
  pub notes : List N

-- the rest of a run, from the turns that are left and those that are spent, the events and notes so far, and the state
abbrev pub Rest : Type 0 → Type 0 → Type 0 → Type 0
Rest E N S = (left spent : ℕ) → List (Stamped E) → List N → S → Option (Report E N)

-- a move is made, and the rest of the run follows. Where no turn is left, a charge ends the run
abbrev pub after : {E N S : Type 0} → Move E N S → Rest E N S → (left spent : ℕ) → List (Stamped E) → List N → Option (Report E N)
after (Goes ns s) rest left spent out notes = rest left spent out (notes ++ ns) s
after (Shows ns e s) rest left spent out notes = rest left spent (out ++ record { turns = spent; event = e } ∷ []) (notes ++ ns) s
after (Charges s) rest zero spent out notes = Some (record { end = Unfinished; events = out; notes = notes })
after (Charges s) rest (suc left) spent out notes = rest left (suc spent) out notes s
after (Ends ns e) rest left spent out notes = Some (record { end = e; events = out; notes = notes ++ ns })

-- the report, if the run is over within so many moves
abbrev pub run : {E N S : Type 0} → (S → Move E N S) → (moves : ℕ) → Rest E N S
run step zero left spent out notes s = None
run step (suc k) left spent out notes s = after (step s) (run step k) left spent out notes

-- the run from a state, with at most so many turns, is over at some time, and this is its report
abbrev pub Reports : {E N S : Type 0} → (S → Move E N S) → S → (turns : ℕ) → Report E N → Type 0
Reports step s n r = (moves : ℕ) × (run step moves n 0 [] [] s ≡ Some r)

-- what notes count for
abbrev pub total : {N : Type 0} → (N → ℕ) → List N → ℕ
total worth [] = 0
total worth (n ∷ ns) = worth n + total worth ns

-- two reports that differ in nothing but their notes, which count for as much
pub record Agree {E N N' : Type 0} (worth : N → ℕ) (worth' : N' → ℕ) (r : Report E N) (r' : Report E N') : Type 0 where
  pub end : r.end ≡ r'.end
  pub events : r.events ≡ r'.events
  pub notes : total worth r.notes ≡ total worth' r'.notes
