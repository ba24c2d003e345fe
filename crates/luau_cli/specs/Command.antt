-- The words of a command: the mode, its options in any order, each at most once, and a file, which may be any word.
use Rattle.std.specs.Prelude.{◌≡◌, ℕ, ◌<◌, ◌≤◌, ◌^◌, List, [], ◌∷◌, length, codes}
use Rattle.std.specs.Str.Parse.{IsNumeral, digits_value}
use Rattle.luau_cli.specs.declared.words.Mode.{Mode}
use Rattle.luau_cli.specs.declared.words.Mode.TheVariants as modes

-- how many turns a script may spend where no word says it
abbrev pub default_turns : ℕ
default_turns = 10000000

-- a number of turns: 1 to 10 decimal digits, below 2 ^ 32
pub record IsTurns (word : List ℕ) (turns : ℕ) : Type 0 where
  pub digits : IsNumeral 10 word
  pub few : length word ≤ 10
  pub value : digits_value 10 word ≡ turns
  pub range : turns < 2 ^ 32

-- the word of a mode
abbrev pub mode_word : Mode → List ℕ
mode_word modes.Run = codes "run"
mode_word modes.Compile = codes "compile"
mode_word modes.List = codes "list"

-- The words name a mode and a file, with a bound on the turns of a script. Only `run` looks at the bound.
pub data IsCommand (words : List (List ℕ)) : Mode → (turns : ℕ) → (file : List ℕ) → Type 0 where
  plain : (mode : Mode) (file : List ℕ) → words ≡ mode_word mode ∷ file ∷ [] → IsCommand words mode default_turns file
  bounded : (mode : Mode) (turns : ℕ) (number file : List ℕ) → words ≡ mode_word mode ∷ codes "--turns" ∷ number ∷ file ∷ []
      → IsTurns number turns → IsCommand words mode turns file
