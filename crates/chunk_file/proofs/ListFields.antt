-- Readers of counted lists, and of texts.
use Rattle.std.proofs.Common.{◌≡◌, ℕ, zero, suc, ◌<◌, ◌^◌, List, [], ◌∷◌, ◌++◌, length, refl, sym, ◌∙◌, ap, subst}
use Rattle.std.proofs.lemmas.List.{append-nil}
use Rattle.std.specs.List.{AllByRecursion, flat_map}
use Rattle.chunk_file.specs.Laws.{AreBytes}
use Rattle.chunk_file.specs.Spelling.{IsCount, number, counted, text}
use Rattle.chunk_file.specs.Reading.{Found, read_number, read_bytes, read_times, read_counted, read_text}
use Rattle.chunk_file.proofs.Readers.{IsReader, Then, Times, converted, then_reads, times_reads}
use Rattle.chunk_file.proofs.Fields.{IsPiece, piece_reads}
use Rattle.chunk_file.proofs.NumberFields.{IsNumberOf, number_reads}

-- a value that may be spelled, with its spelling
pub record Spelled {A : Type 0} (ok : A → Type 0) (spell : A → List ℕ) (a : A) (bytes : List ℕ) : Type 0 where
  pub may : ok a
  pub spelled : bytes ≡ spell a

module _ {A : Type 0} (read : List ℕ → Found A) (ok : A → Type 0) (spell : A → List ℕ) where
  -- so many values, one behind another
  record AreTimes (n : ℕ) (xs : List A) (bytes : List ℕ) : Type 0 where
    many : length xs ≡ n
    may : AllByRecursion ok xs
    spelled : bytes ≡ flat_map spell xs

  times_are : (n : ℕ) (xs : List A) (bytes : List ℕ) → Times (Spelled ok spell) n xs bytes → AreTimes n xs bytes
  times_are zero xs bytes t =
      subst (λ xs. AreTimes zero xs bytes) (sym t.value) (record { many = refl; may = tt; spelled = t.none })
  times_are (suc n) xs bytes t =
      let inner = times_are n t.then.first t.then.front t.then.is in
      subst (λ xs. AreTimes (suc n) xs bytes) (sym t.then.then.value)
      (record {
        many = ap suc inner.many;
        may = (t.is.may, inner.may);
        spelled = t.joined ∙ ap (λ f. f ++ t.back) t.is.spelled
            ∙ ap (λ b. spell t.first ++ b) (t.then.joined ∙ ap (λ e. t.then.front ++ e) t.then.then.none ∙ append-nil t.then.front ∙ inner.spelled);
      })

  are_times : (xs : List A) → AllByRecursion ok xs → Times (Spelled ok spell) (length xs) xs (flat_map spell xs)
  are_times [] may = record { value = refl; none = refl }
  are_times (x ∷ xs) may =
      record {
        first = x;
        front = spell x;
        back = flat_map spell xs;
        is = record { may = may.0; spelled = refl };
        then = record {
          first = xs;
          front = flat_map spell xs;
          back = [];
          is = are_times xs may.1;
          then = record { value = refl; none = refl };
          joined = sym (append-nil (flat_map spell xs));
        };
        joined = refl;
      }

  -- a list whose values may be spelled, and which are not too many
  pub record MayCount (xs : List A) : Type 0 where
    pub few : IsCount xs
    pub may : AllByRecursion ok xs

  counted_to : (xs : List A) (bytes : List ℕ) → Then IsNumberOf (λ n. Times (Spelled ok spell) n) xs bytes → Spelled MayCount (counted spell) xs bytes
  counted_to xs bytes t =
      let inner = times_are t.first xs t.back t.then in
      record {
        may = record { few = subst (λ n. n < 2 ^ 32) (sym inner.many) t.is.small; may = inner.may };
        spelled = t.joined ∙ ap (λ f. f ++ t.back) (t.is.spelled ∙ ap number (sym inner.many)) ∙ ap (λ b. number (length xs) ++ b) inner.spelled;
      }

  counted_from : (xs : List A) (bytes : List ℕ) → Spelled MayCount (counted spell) xs bytes → Then IsNumberOf (λ n. Times (Spelled ok spell) n) xs bytes
  counted_from xs bytes is =
      record {
        first = length xs;
        front = number (length xs);
        back = flat_map spell xs;
        is = record { small = is.may.few; spelled = refl };
        then = are_times xs is.may.may;
        joined = is.spelled;
      }

  pub counted_reads : IsReader read (Spelled ok spell) → IsReader (read_counted read) (Spelled MayCount (counted spell))
  counted_reads reads =
      converted (read_counted read) (Then IsNumberOf (λ n. Times (Spelled ok spell) n)) (Spelled MayCount (counted spell)) counted_to counted_from
      (then_reads read_number (read_times read) IsNumberOf (λ n. Times (Spelled ok spell) n) number_reads (times_reads read (Spelled ok spell) reads))

-- ---- texts

pub record IsText (s : List ℕ) : Type 0 where
  pub few : IsCount s
  pub are : AreBytes s

text_to : (s bytes : List ℕ) → Then IsNumberOf IsPiece s bytes → Spelled IsText text s bytes
text_to s bytes t =
    record {
      may = record { few = subst (λ n. n < 2 ^ 32) (sym t.then.many) t.is.small; are = t.then.are };
      spelled = t.joined ∙ ap (λ f. f ++ t.back) (t.is.spelled ∙ ap number (sym t.then.many)) ∙ ap (λ b. number (length s) ++ b) t.then.same;
    }

text_from : (s bytes : List ℕ) → Spelled IsText text s bytes → Then IsNumberOf IsPiece s bytes
text_from s bytes is =
    record {
      first = length s;
      front = number (length s);
      back = s;
      is = record { small = is.may.few; spelled = refl };
      then = record { many = refl; are = is.may.are; same = refl };
      joined = is.spelled;
    }

pub text_reads : IsReader read_text (Spelled IsText text)
text_reads =
    converted read_text (Then IsNumberOf IsPiece) (Spelled IsText text) text_to text_from
    (then_reads read_number read_bytes IsNumberOf IsPiece number_reads piece_reads)
