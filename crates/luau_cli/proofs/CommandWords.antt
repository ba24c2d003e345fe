-- The words of a command, one by one.
use Rattle.std.proofs.Common.{◌≡◌, ◌∙◌, refl, sym, ap, subst, ℕ, ◌<◌, ◌≤◌, List, [], ◌∷◌, length, get_or, map, Option, Some, None, arith, codes}
use Rattle.std.specs.Prelude.{MatchOption}
use Rattle.std.specs.Str.Parse.{digits_value}
use Rattle.luau_cli.specs.declared.words.Command.{Command}
use Rattle.luau_cli.specs.declared.words.Mode.{Mode}
use Rattle.luau_cli.specs.declared.words.Mode.TheVariants as modes
use Rattle.luau_cli.specs.Command.{IsCommand, IsTurns, mode_word, default_turns}

-- two words and no more
pub two_words : {X : Type 0} (f : X → List ℕ) (ws : List X) (v w : X) (a b : List ℕ) → 2 ≤ length ws → length ws < 3 → v ≡ get_or ws 0 v
    → w ≡ get_or ws 1 w → f v ≡ a → f w ≡ b → map f ws ≡ a ∷ b ∷ []
two_words f [] v w a b least most ev ew ea eb = absurd (omega arith)
two_words f (x ∷ []) v w a b least most ev ew ea eb = absurd (omega arith)
two_words f (x ∷ y ∷ []) v w a b least most ev ew ea eb = cc
two_words f (x ∷ y ∷ z ∷ ws) v w a b least most ev ew ea eb = absurd (omega arith)

-- four words and no more
pub four_words : {X : Type 0} (f : X → List ℕ) (ws : List X) (v w x y : X) (a b c d : List ℕ) → 4 ≤ length ws → length ws < 5
    → v ≡ get_or ws 0 v → w ≡ get_or ws 1 w → x ≡ get_or ws 2 x → y ≡ get_or ws 3 y → f v ≡ a → f w ≡ b → f x ≡ c → f y ≡ d
    → map f ws ≡ a ∷ b ∷ c ∷ d ∷ []
four_words f [] v w x y a b c d least most ev ew ex ey ea eb ec ed = absurd (omega arith)
four_words f (p ∷ []) v w x y a b c d least most ev ew ex ey ea eb ec ed = absurd (omega arith)
four_words f (p ∷ q ∷ []) v w x y a b c d least most ev ew ex ey ea eb ec ed = absurd (omega arith)
four_words f (p ∷ q ∷ r ∷ []) v w x y a b c d least most ev ew ex ey ea eb ec ed = absurd (omega arith)
four_words f (p ∷ q ∷ r ∷ s ∷ []) v w x y a b c d least most ev ew ex ey ea eb ec ed = cc
four_words f (p ∷ q ∷ r ∷ s ∷ t ∷ ws) v w x y a b c d least most ev ew ex ey ea eb ec ed = absurd (omega arith)

-- what words that are not two, and not four, cannot say
pub other_words : (ws : List (List ℕ)) → ((mode : Mode) (file : List ℕ) → ws ≡ mode_word mode ∷ file ∷ [] → ⊥)
    → ((mode : Mode) (turns : ℕ) (number file : List ℕ) → ws ≡ mode_word mode ∷ codes "--turns" ∷ number ∷ file ∷ [] → IsTurns number turns → ⊥)
    → (mode : Mode) (turns : ℕ) (file : List ℕ) → IsCommand ws mode turns file → ⊥
other_words ws plain bounded _ _ _ (IsCommand.plain mode file e) = plain mode file e
other_words ws plain bounded _ _ _ (IsCommand.bounded mode turns number file e is) = bounded mode turns number file e is

-- what two words say
pub plain_is : (ws : List (List ℕ)) (mode : Mode) (turns : ℕ) (file : List ℕ) → ws ≡ mode_word mode ∷ file ∷ [] → turns ≡ default_turns
    → IsCommand ws mode turns file
plain_is ws mode turns file e is = subst (λ n. IsCommand ws mode n file) (sym is) (IsCommand.plain mode file e)

-- what four words say, where two do not
pub or_bounded : (ws : List (List ℕ)) (o : Option Command) → ((mode : Mode) (file : List ℕ) → ws ≡ mode_word mode ∷ file ∷ [] → ⊥)
    → MatchOption o
    ((mode : Mode) (turns : ℕ) (number file : List ℕ) → ws ≡ mode_word mode ∷ codes "--turns" ∷ number ∷ file ∷ [] → IsTurns number turns → ⊥)
    (λ c. (number : List ℕ) × (ws ≡ mode_word c.mode ∷ codes "--turns" ∷ number ∷ c.file.now ∷ []) × IsTurns number c.turns)
    → MatchOption o ((mode : Mode) (turns : ℕ) (file : List ℕ) → IsCommand ws mode turns file → ⊥) (λ c. IsCommand ws c.mode c.turns c.file.now)
or_bounded ws None plain bounded = other_words ws plain bounded
or_bounded ws (Some c) plain bounded = IsCommand.bounded c.mode c.turns bounded.0 c.file.now bounded.1 bounded.2

-- modes have different words
mode_once : (a b : Mode) → mode_word a ≡ mode_word b → a ≡ b
mode_once modes.Run modes.Run e = refl
mode_once modes.Run modes.Compile e = absurd (let no = e in cc)
mode_once modes.Run modes.List e = absurd (let no = e in cc)
mode_once modes.Compile modes.Run e = absurd (let no = e in cc)
mode_once modes.Compile modes.Compile e = refl
mode_once modes.Compile modes.List e = absurd (let no = e in cc)
mode_once modes.List modes.Run e = absurd (let no = e in cc)
mode_once modes.List modes.Compile e = absurd (let no = e in cc)
mode_once modes.List modes.List e = refl

-- words name one mode, one file and one bound
pub same_command : (ws : List (List ℕ)) (mode mode' : Mode) (turns turns' : ℕ) (file file' : List ℕ) → IsCommand ws mode turns file
    → IsCommand ws mode' turns' file' → (mode ≡ mode') × (turns ≡ turns') × (file ≡ file')
same_command ws _ _ _ _ _ _ (IsCommand.plain mode file e) (IsCommand.plain mode' file' d) =
    let word : mode_word mode ≡ mode_word mode' = cc in
    let same : file ≡ file' = cc in
    (mode_once mode mode' word, refl, same)
same_command ws _ _ _ _ _ _ (IsCommand.plain mode file e) (IsCommand.bounded mode' turns number file' d is) = absurd (let no = sym e ∙ d in cc)
same_command ws _ _ _ _ _ _ (IsCommand.bounded mode turns number file e is) (IsCommand.plain mode' file' d) = absurd (let no = sym e ∙ d in cc)
same_command ws _ _ _ _ _ _ (IsCommand.bounded mode turns number file e is) (IsCommand.bounded mode' turns' number' file' d is') =
    let word : mode_word mode ≡ mode_word mode' = cc in
    let same : file ≡ file' = cc in
    let bound : number ≡ number' = cc in
    (mode_once mode mode' word, sym is.value ∙ ap (digits_value 10) bound ∙ is'.value, same)
