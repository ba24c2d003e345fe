-- Changes of the function that runs, where values come to it.
use Rattle.std.specs.Prelude.{ℕ, zero, suc, ◌+◌, ◌-◌, ◌≤◌, IsSomeAnd, Bool, true, false, List, [], ◌∷◌, ◌++◌, length, take, replicate}
use Rattle.value_model.specs.Values as m
use Rattle.value_model.specs.declared.value.Value.{Value}
use Rattle.value_model.specs.declared.value.Value.TheVariants.{Nil}
use Rattle.call_frames.specs.Stacks.{StackView}
use Rattle.call_frames.specs.Cells.{innermost}
use Rattle.machine_meaning.specs.States.{Inside}
use Rattle.machine_meaning.specs.Moves.{at}
use Rattle.machine_world.specs.Sound.{IsLuau}

-- the code goes on at a place, and waits for no call
abbrev pub gone : ℕ → Inside → Inside
gone place i = record i { frame = at place i.frame }

-- the arguments behind the parameters
abbrev pub varargs : Inside → List m.Value
varargs i = i.frame.varargs

-- one value fewer than the count, with nil for those that are missing; at 0 all
abbrev pub as_many : (count : ℕ) → List Value → List Value
as_many zero vs = vs
as_many (suc n) vs = take n vs ++ replicate (n - length vs) Nil

-- the first value, and nil where there is none
abbrev pub first : List Value → Value
first [] = Nil
first (v ∷ vs) = v

-- a Luau function runs and has so many registers from one on
abbrev pub HasRange : StackView → (from count : ℕ) → Type 0
HasRange s from count = IsSomeAnd (innermost s) (λ f. IsLuau f × (from + count ≤ f.registers))

-- a loop ends where the first value is nil, or there is none
abbrev pub ends : List Value → Bool
ends [] = true
ends (Nil ∷ vs) = true
ends (v ∷ vs) = false
