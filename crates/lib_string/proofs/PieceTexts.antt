-- The numbers of pieces.
use Rattle.std.proofs.Common.{◌≡◌, ◌<◌, List, [], ◌∷◌, ◌++◌, map, length, Some, slice_get, refl, ◌∙◌, ap}
use Rattle.indexmap.proofs.SetLemmas.{AllZip-push}
use Rattle.std.proofs.lemmas.Option.{get_or_from_slice_get, slice_get_within}
use Rattle.std.specs.List.{AllByRecursion}
use Rattle.byte_text.specs.declared.fixed.StrId.{StrId}
use Rattle.value_model.specs.Values.{Bytes, Text}
use Rattle.luau_tables.specs.Worlds.{Extends}
use Rattle.luau_tables.proofs.MoreTexts.{text_on}
use Rattle.lib_string.specs.Pieces.{AreTextsOf, texts_at}

texts_more : (texts after : List Bytes) → Extends texts after → (ids : List StrId) (ps : List Bytes) → AreTextsOf texts ids ps → AreTextsOf after ids ps
texts_more texts after more [] [] h = tt
texts_more texts after more [] (p ∷ ps) h = h
texts_more texts after more (x ∷ ids) [] h = h
texts_more texts after more (x ∷ ids) (p ∷ ps) h = (text_on texts after more x.0 p h.0, texts_more texts after more ids ps h.1)

-- one more piece
pub text_pushed : (texts after : List Bytes) → Extends texts after → (ids : List StrId) (ps : List Bytes) (x : StrId) (p : Bytes) → AreTextsOf texts ids ps → slice_get after x.0 ≡ Some p → AreTextsOf after (ids ++ x ∷ []) (ps ++ p ∷ [])
text_pushed texts after more ids ps x p h at =
    AllZip-push (λ (id : StrId) (piece : Bytes). slice_get after id.0 ≡ Some piece) ids ps x p (texts_more texts after more ids ps h) at

pub are_there : (texts : List Bytes) (ids : List StrId) (ps : List Bytes) → AreTextsOf texts ids ps → AllByRecursion (λ id. id.0 < length texts) ids
are_there texts [] ps h = tt
are_there texts (x ∷ ids) [] h = absurd (elim h [ ])
are_there texts (x ∷ ids) (p ∷ ps) h = (slice_get_within texts x.0 p h.0, are_there texts ids ps h.1)

pub texts_are : (texts : List Bytes) (ids : List StrId) (ps : List Bytes) → AreTextsOf texts ids ps → texts_at texts ids ≡ map (λ p. Text p) ps
texts_are texts [] [] h = refl
texts_are texts [] (p ∷ ps) h = absurd (elim h [ ])
texts_are texts (x ∷ ids) [] h = absurd (elim h [ ])
texts_are texts (x ∷ ids) (p ∷ ps) h =
    ap (λ b. Text b ∷ texts_at texts ids) (get_or_from_slice_get texts x.0 p [] h.0) ∙ ap (λ vs. Text p ∷ vs) (texts_are texts ids ps h.1)
