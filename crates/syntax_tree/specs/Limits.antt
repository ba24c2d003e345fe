-- The limits of the language.
use Rattle.std.specs.Prelude.{ℕ}

-- so many nodes of a tree may be around each other, and so many brackets of a type open at once
abbrev pub most_nested : ℕ
most_nested = 200

-- so many locals of a function may be live, and so many variables may it capture
abbrev pub most_variables : ℕ
most_variables = 200

-- so many registers may a function need
abbrev pub most_registers : ℕ
most_registers = 250

-- so great may the bulk of a function be
abbrev pub most_bulk : ℕ
most_bulk = 30000
