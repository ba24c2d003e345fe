-- The numbers of strings, one by one.
use Rattle.std.proofs.Common.{◌≡◌, refl, sym, ap, ◌∙◌, subst, ℕ, ◌+◌, ◌<◌, Bool, true, false, List, [], ◌∷◌, ◌++◌, length, map, take, get_or, Option, Some, append_assoc, add-one}
use Rattle.std.specs.Prelude.{slice_get, if◌then◌else◌}
use Rattle.std.specs.List.{list_any, AllByRecursion, Contains}
use Rattle.std.specs.Str.{bytes_eq}
use Rattle.std.proofs.lemmas.List.{map-append, append-nil}
use Rattle.std.proofs.lemmas.List.Elements.{Contains-get_or}
use Rattle.std.proofs.Math.Seq.{take-suc}
use Rattle.byte_text.specs.declared.fixed.StrId.{StrId}
use Rattle.byte_text.specs.Texts.{noted}
use Rattle.byte_text.proofs.Numbering.{slice_get-noted}
use Rattle.value_model.specs.Values.{Bytes}
use Rattle.machine_code.specs.Kept.{AreNumbersOf, Adds}
use Rattle.machine_code.proofs.Lists.{all_push}

pub none_added : (strings texts : List Bytes) → Adds strings texts texts
none_added strings texts = record { more = []; appended = sym (append-nil texts); new = tt }

pub one_added : (strings before now : List Bytes) (t : Bytes) → Adds strings before now → Contains strings t → Adds strings before (noted now t)
one_added strings before now t adds is = by (list_any (bytes_eq t) now)
  where
    by : (b : Bool) → Adds strings before (if b then now else now ++ t ∷ [])
    by true = adds
    by false = record {
      more = adds.more ++ t ∷ [];
      appended = ap (λ ts. ts ++ t ∷ []) adds.appended ∙ append_assoc before adds.more (t ∷ []);
      new = all_push (Contains strings) adds.more t adds.new is;
    }

-- numbers stay when a text is noted
pub numbers_stay : (texts : List Bytes) (t : Bytes) (strings : List Bytes) (numbers : List StrId) → AreNumbersOf texts strings numbers
    → AreNumbersOf (noted texts t) strings numbers
numbers_stay texts t [] [] e = refl
numbers_stay texts t [] (x ∷ xs) e = absurd cc
numbers_stay texts t (s ∷ ss) [] e = absurd cc
numbers_stay texts t (s ∷ ss) (x ∷ xs) e =
    let at : slice_get texts x.0 ≡ Some s = cc in
    let rest : AreNumbersOf texts ss xs = cc in
    let stays = slice_get-noted texts t x.0 s at in
    let all = numbers_stay texts t ss xs rest in
    ap (λ o. o ∷ map (λ (x : StrId). slice_get (noted texts t) x.0) xs) stays ∙ ap (λ os. Some s ∷ os) all

pub one_number : (texts strings : List Bytes) (numbers : List StrId) (s : Bytes) (x : StrId) → AreNumbersOf texts strings numbers
    → slice_get texts x.0 ≡ Some s → AreNumbersOf texts (strings ++ s ∷ []) (numbers ++ x ∷ [])
one_number texts strings numbers s x are at =
    map-append (λ (x : StrId). slice_get texts x.0) numbers (x ∷ [])
    ∙ ap (λ os. os ++ slice_get texts x.0 ∷ []) are
    ∙ ap (λ o. map Some strings ++ o ∷ []) at
    ∙ sym (map-append Some strings (s ∷ []))

-- one string more: its number stands behind the others
pub one_string : (strings before now after : List Bytes) (i : ℕ) (s t : Bytes) (numbers all : List StrId) (x : StrId) → i < length strings
    → s ≡ get_or strings i s → t ≡ s → after ≡ noted now t → slice_get after x.0 ≡ Some t → all ≡ numbers ++ x ∷ []
    → AreNumbersOf now (take i strings) numbers → Adds strings before now
    → AreNumbersOf after (take (i + 1) strings) all × Adds strings before after
one_string strings before now after i s t numbers all x below item same grown at pushed are adds =
    let taken : take (i + 1) strings ≡ take i strings ++ t ∷ [] =
    ap (λ n. take n strings) (add-one i) ∙ take-suc strings i s below ∙ ap (λ u. take i strings ++ u ∷ []) (sym item ∙ sym same) in
    let stay : AreNumbersOf after (take i strings) numbers =
    subst (λ ts. AreNumbersOf ts (take i strings) numbers) (sym grown) (numbers_stay now t (take i strings) numbers are) in
    let more : AreNumbersOf after (take i strings ++ t ∷ []) (numbers ++ x ∷ []) = one_number after (take i strings) numbers t x stay at in
    let is : Contains strings t = subst (Contains strings) (sym item ∙ sym same) (Contains-get_or strings i s below) in (
      subst (λ xs. AreNumbersOf after (take (i + 1) strings) xs) (sym pushed)
          (subst (λ ss. AreNumbersOf after ss (numbers ++ x ∷ [])) (sym taken) more),
      subst (Adds strings before) (sym grown) (one_added strings before now t adds is),
    )
