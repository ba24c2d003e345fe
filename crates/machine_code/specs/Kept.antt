-- The constants of a chunk as values, by the numbers of its strings.
use Rattle.std.specs.Prelude.{◌≡◌, true, false, List, ◌++◌, map, Option, Some, None, slice_get}
use Rattle.std.specs.List.{AllByRecursion, Contains}
use Rattle.byte_text.specs.declared.fixed.StrId.{StrId}
use Rattle.op_words.specs.declared.chunk.Const.{Const}
use Rattle.op_words.specs.declared.chunk.Const.TheVariants as constant
use Rattle.value_model.specs.Values.{Bytes}
use Rattle.value_model.specs.declared.value.Value.{Value}
use Rattle.value_model.specs.declared.value.Value.TheVariants as value

-- these are the numbers of the strings, one by one
abbrev pub AreNumbersOf : (texts strings : List Bytes) → List StrId → Type 0
AreNumbersOf texts strings numbers = map (λ (x : StrId). slice_get texts x.0) numbers ≡ map Some strings

-- texts that were there have their numbers, and others, each of them one of the strings, may have come behind them
pub record Adds (strings before after : List Bytes) : Type 0 where
  pub more : List Bytes
  pub appended : after ≡ before ++ more
  pub new : AllByRecursion (Contains strings) more

abbrev pub text_or_nil : Option StrId → Value
text_or_nil None = value.Nil
text_or_nil (Some x) = value.Str x

-- the value of a constant, and nil in place of an import's
abbrev pub kept : (numbers : List StrId) → Const → Value
kept numbers constant.Nil = value.Nil
kept numbers constant.False = value.Bool false
kept numbers constant.True = value.Bool true
kept numbers (constant.Num z) = value.Num z
kept numbers (constant.Str s) = text_or_nil (slice_get numbers s)
kept numbers (constant.Import word) = value.Nil
