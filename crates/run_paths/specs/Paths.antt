-- From a state of a run to a later one.
use Rattle.std.specs.Prelude.{◌≡◌, ℕ, ◌+◌, List, ◌++◌}
use Rattle.bounded_runs.specs.Runs.{Move, Goes, Shows, Charges, Ends, Stamped, run}

-- Some moves lead from one state to another. Behind so many turns that were spent they spend so many more, show these events, and note
-- this; whatever was shown and noted before, and however the run goes on
pub record Passes {E N S : Type 0} (step : S → Move E N S) (spent : ℕ) (from : S) (turns : ℕ) (events : List (Stamped E)) (notes : List N) (to : S) : Type 0 where
  pub moves : ℕ
  pub leads : (more left : ℕ) (out : List (Stamped E)) (before : List N)
      → run step (moves + more) (left + turns) spent out before from
      ≡ run step more left (spent + turns) (out ++ events) (before ++ notes) to

-- ---- what each move keeps

-- it holds where a move leads
abbrev pub HoldsBehind : {E N S : Type 0} → (P : S → Type 0) → Move E N S → Type 0
HoldsBehind P (Goes ns s) = P s
HoldsBehind P (Shows ns e s) = P s
HoldsBehind P (Charges s) = P s
HoldsBehind P (Ends ns e) = Unit {0}

-- from each state of which it holds
abbrev pub IsKept : {E N S : Type 0} → (step : S → Move E N S) → (P : S → Type 0) → Type 0
IsKept {E} {N} {S} step P = (s : S) → P s → HoldsBehind P (step s)

-- some moves lead from one state to another, and what holds of the one holds of the other
pub record Keeps {E N S : Type 0} (step : S → Move E N S) (P : S → Type 0) (spent : ℕ) (from : S) (turns : ℕ) (events : List (Stamped E)) (notes : List N) (to : S) : Type 0 where
  pub passes : Passes step spent from turns events notes to
  pub keeps : P from → P to
