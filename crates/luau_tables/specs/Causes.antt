-- Why a write is refused.
use Rattle.std.specs.Prelude.{◌≡◌, Bool, true, false, Result, Err}
use Rattle.luau_tables.specs.declared.refusal.SetErr.{SetErr}
use Rattle.luau_tables.specs.declared.refusal.SetErr.TheVariants.{Frozen, NilKey}

-- A write of a frozen table answers `Frozen`, and of another one under a nil key `NilKey`; and no other write answers so.
abbrev pub Answers : (is_frozen : Bool) → (is_nil_key : Bool) → Result (Unit {0}) SetErr → Type 0
Answers frozen nil (Err Frozen) = frozen ≡ true
Answers frozen nil (Err NilKey) = (frozen ≡ false) × (nil ≡ true)
Answers frozen nil _ = (frozen ≡ false) × (nil ≡ false)
