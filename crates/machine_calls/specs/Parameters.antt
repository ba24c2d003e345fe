-- Which arguments of a call are parameters.
use Rattle.std.specs.Prelude.{ℕ, Bool, nat_lt, if◌then◌else◌}

-- so many are, where there are so many arguments
abbrev pub given_count : (params count : ℕ) → ℕ
given_count n count = if nat_lt n count then n else count

-- the variable arguments begin behind so many
abbrev pub extra_from : (vararg : Bool) → (given count : ℕ) → ℕ
extra_from vararg k count = if vararg then k else count
