-- The moves of a script's run.
use Rattle.std.specs.Prelude.{ℕ, ◌+◌, Bool, not, ◌&&◌, List, [], ◌∷◌, replicate, slice_index_or, slice_set}
use Rattle.std.specs.List.{list_any}
use Rattle.byte_text.specs.declared.fixed.StrId.{StrId}
use Rattle.value_model.specs.Values.{Value, Nil, TableRef}
use Rattle.value_model.specs.Errors.{RunError}
use Rattle.value_model.specs.Store.{Store as ObjectStore, same_table, script_environment, environment_of}
use Rattle.value_model.specs.Waits.{ByLibrary, Stuck, Stopped}
use Rattle.value_model.specs.declared.event.EventKind.{EventKind}
use Rattle.value_model.specs.Choices.{Choice, Outcome, Done, CallThis, Errs, Halts}
use Rattle.bounded_runs.specs.Runs.{Move, Goes, Charges, Ends}
use Rattle.source_meaning.specs.States.{Node, Environment, Purpose, Wants, Nothing, Frame, Awaits, Focus, GiveAll, Fault, Invoke, Activation, World, State}

-- a table that is asked: by which node, and whether the running function's environment is safe
pub record Look : Type 0 where
  pub node : ℕ
  pub safe : Bool

abbrev pub Step : Type 0
Step = Move EventKind Look State

-- the function that runs, but for its frames and variables: its closure, its arguments behind the parameters, and the functions
-- below it
pub record Here : Type 0 where
  pub closure : ℕ
  pub varargs : List Value
  pub below : List Activation

-- what is done with a function's frames and variables, and with what all functions share
abbrev pub Row : Type 0
Row = Here → List Frame → Environment → World → Step

abbrev pub functions_of : Here → List Frame → Environment → List Activation
functions_of h k env = record { frames = k; env = env; closure = h.closure; varargs = h.varargs } ∷ h.below

abbrev pub state : Focus → Here → List Frame → Environment → World → State
state f h k env w = record { focus = f; functions = functions_of h k env; world = w }

abbrev pub now : Focus → Row
now f h k env w = Goes [] (state f h k env w)

-- a turn is charged first
abbrev pub charge : Focus → Row
charge f h k env w = Charges (state f h k env w)

abbrev pub stuck : Row
stuck h k env w = Ends [] Stuck

-- ---- the world

abbrev pub store_of : World → ObjectStore
store_of w = w.objects.store

abbrev pub with_store : ObjectStore → World → World
with_store s w = record w { objects = record w.objects { store = s } }

abbrev pub cells_of : World → List Value
cells_of w = w.objects.cells

abbrev pub with_cells : List Value → World → World
with_cells cs w = record w { objects = record w.objects { cells = cs } }

abbrev pub cell_at : World → ℕ → Value
cell_at w c = slice_index_or (cells_of w) c Nil

abbrev pub with_cell : ℕ → Value → World → World
with_cell c v w = with_cells (slice_set (cells_of w) c v) w

-- the environment of the function that runs
abbrev pub environment_here : Here → World → TableRef
environment_here h w = environment_of (store_of w) h.closure

-- it is the script's own, `getfenv` never gave it, and `setfenv` was never given it
abbrev pub is_safe : Here → World → Bool
is_safe h w =
    let env = environment_here h w in same_table env script_environment && not (list_any (same_table env) w.given)

-- so many tables were asked
abbrev pub looks : ℕ → Node → Here → World → List Look
looks n at h w = replicate n (record { node = at.id; safe = is_safe h w })

-- ---- values

-- the first value, or nil
abbrev pub first : List Value → Value
first [] = Nil
first (v ∷ vs) = v

abbrev pub rest : List Value → List Value
rest [] = []
rest (v ∷ vs) = vs

-- as many values as there are names: nil where one is missing
abbrev pub adjusted : List StrId → List Value → List Value
adjusted [] vs = []
adjusted (x ∷ xs) vs = first vs ∷ adjusted xs (rest vs)

-- names with cells from a number on
abbrev pub bound : List StrId → ℕ → Environment → Environment
bound [] c env = env
bound (x ∷ xs) c env = bound xs (c + 1) ((x, c) ∷ env)

-- ---- operations

-- a run error at a node
abbrev pub fault : Node → RunError → Row
fault at e h k env w = now (Fault e) h (Awaits at (Wants Nothing) ∷ k) env w

-- what an operation gives is taken as what a call gives
abbrev pub comes : Outcome → List Look → Node → Purpose → Row
comes (Done v) ns at p h k env w = Goes ns (state (GiveAll (v ∷ [])) h (Awaits at p ∷ k) env w)
comes (CallThis f vs) ns at p h k env w = Goes ns (state (Invoke ByLibrary f vs) h (Awaits at p ∷ k) env w)
comes (Errs e) ns at p h k env w = Goes ns (state (Fault e) h (Awaits at p ∷ k) env w)
comes (Halts s) ns at p h k env w = Ends ns (Stopped s)

-- a node operates on values, for some purpose
abbrev pub settle : Choice → Node → Purpose → Row
settle c at p h k env w = comes c.outcome (looks c.asked at h w) at p h k env (with_store c.store w)
