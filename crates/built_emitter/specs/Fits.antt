-- Items whose instructions have room for all of their fields.
use Rattle.std.specs.Prelude.{List, [], ◌∷◌}
use Rattle.op_words.specs.Encoding.{IsFit}
use Rattle.code_link.specs.declared.item.Item.{Item}
use Rattle.code_link.specs.declared.item.Item.TheVariants.{Insn, Branch, Label}

-- each field of each instruction fits its bits, of a branch with the distance that it names before it is linked
abbrev pub AllFit : List Item → Type 0
AllFit [] = Unit {0}
AllFit (Insn i ∷ is) = IsFit i × AllFit is
AllFit (Branch i l ∷ is) = IsFit i × AllFit is
AllFit (Label l ∷ is) = AllFit is
