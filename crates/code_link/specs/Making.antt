-- How the code is made, item by item.
use Rattle.std.specs.Prelude.{ℕ, ◌+◌, ℤ, pos, ◌-ℤ◌, List, [], ◌∷◌, ◌++◌, length, Option, unwrap_or}
use Rattle.op_words.specs.Encoding.{encoded}
use Rattle.code_link.specs.declared.item.Item.{Item}
use Rattle.code_link.specs.declared.item.Item.TheVariants.{Insn, Branch, Label}
use Rattle.code_link.specs.Linking.{jumping}

-- the distance of a jump from one place to another
abbrev pub distance : (at to : ℕ) → ℤ
distance at to = pos to -ℤ pos (at + 1)

-- the words of the items that begin at a place
abbrev pub linked : (place : ℕ → Option ℕ) → (from : ℕ) → List Item → List ℕ
linked place from [] = []
linked place from (Insn i ∷ is) = encoded i ++ linked place (from + length (encoded i)) is
linked place from (Branch i l ∷ is) =
    encoded (jumping i (distance from (unwrap_or (place l) 0))) ++ linked place (from + length (encoded i)) is
linked place from (Label l ∷ is) = linked place from is
