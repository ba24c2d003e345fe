-- Texts that are made of pieces.
use Rattle.std.specs.Prelude.{ℕ, List, [], ◌∷◌, ◌++◌}

-- a text and behind it the pieces, in their order
abbrev pub followed_by : {P : Type 0} → (P → List ℕ) → List ℕ → List P → List ℕ
followed_by bytes text [] = text
followed_by bytes text (p ∷ ps) = followed_by bytes (text ++ bytes p) ps
