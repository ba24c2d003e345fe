-- The pieces of a text, by the numbers of texts.
use Rattle.std.specs.Prelude.{◌≡◌, List, map, Some, slice_get}
use Rattle.std.specs.List.{AllZip}
use Rattle.byte_text.specs.declared.fixed.StrId.{StrId}
use Rattle.value_model.specs.Parts.{bytes_at}
use Rattle.value_model.specs.Values.{Bytes, Value, Text}

-- the numbers are those of the pieces, one by one
abbrev pub AreTextsOf : (texts : List Bytes) → List StrId → List Bytes → Type 0
AreTextsOf texts ids pieces = AllZip (λ (id : StrId) (piece : Bytes). slice_get texts id.0 ≡ Some piece) ids pieces

-- the texts of some numbers, as values
abbrev pub texts_at : (texts : List Bytes) → List StrId → List Value
texts_at texts ids = map (λ id. Text (bytes_at texts id.0)) ids
