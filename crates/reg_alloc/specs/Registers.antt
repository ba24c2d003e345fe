-- The registers of a function.
use Rattle.std.specs.Prelude.{ℕ}

-- those below the mark are in use, and there are none from the limit on
pub record Registers : Type 0 where
  pub mark : ℕ
  pub limit : ℕ
