-- Numbers and names of what is wrong.
use Rattle.std.specs.Prelude.{ℕ, zero, suc, List, [], ◌∷◌, Option, Some, None, codes, slice_get}
use Rattle.chunk_check.specs.declared.error.CheckErr.{CheckErr}
use Rattle.chunk_check.specs.declared.error.CheckErr.TheVariants.{BadCode, OutOfMemory}

abbrev pub number_of : CheckErr → Option ℕ
number_of (BadCode proto place rule) = Some 35
number_of OutOfMemory = None

-- the names of the rules, from the first one on
abbrev pub rule_names : List (List ℕ)
rule_names =
    codes "Opcode" ∷ codes "Register" ∷ codes "Constant" ∷ codes "Upvalue" ∷ codes "Child" ∷ codes "Jump" ∷ codes "Back"
    ∷ codes "Pair" ∷ codes "Top" ∷ codes "Fall" ∷ codes "Proto" ∷ []

-- rules count from 1
abbrev pub rule_named : ℕ → Option (List ℕ)
rule_named zero = None
rule_named (suc n) = slice_get rule_names n

abbrev pub rule_of : CheckErr → Option (List ℕ)
rule_of (BadCode proto place rule) = rule_named rule
rule_of OutOfMemory = None
