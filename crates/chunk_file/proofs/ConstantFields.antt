-- The reader of constants.
use Rattle.std.proofs.Common.{◌≡◌, ℕ, zero, suc, ℤ, Bool, nat_eq, List, [], ◌∷◌, ◌++◌, refl, sym, ◌∙◌, ap, subst, arith, if◌then◌else◌}
use Rattle.std.proofs.lemmas.Bool.{ne_eqb}
use Rattle.op_words.specs.declared.chunk.Const.{Const}
use Rattle.op_words.specs.declared.chunk.Const.TheVariants as const
use Rattle.chunk_file.specs.Laws.{AreBytes}
use Rattle.chunk_file.specs.Spelling.{HasBits, constant}
use Rattle.chunk_file.specs.Reading.{Found, Read, Ends, Wrong, behind, read_named, read_constant, read_whole, read_number, read_word}
use Rattle.chunk_file.proofs.Readers.{IsReadFrom, Begins, IsWrong, IsReader}
use Rattle.chunk_file.proofs.NumberFields.{IsNumberOf, number_reads}
use Rattle.chunk_file.proofs.WordFields.{IsWord, word_reads, IsWholeOf, whole_reads}

pub record IsConstant (k : Const) (bytes : List ℕ) : Type 0 where
  pub bits : HasBits k
  pub spelled : bytes ≡ constant k

constant_forward : (k : Const) (rest : List ℕ) → HasBits k → read_constant (constant k ++ rest) ≡ Read k rest
constant_forward const.Nil rest bits = refl
constant_forward const.False rest bits = refl
constant_forward const.True rest bits = refl
constant_forward (const.Num z) rest bits = ap (λ f. behind f (λ z rest. Read (const.Num z) rest)) (whole_reads.forward z _ rest (record { within = bits; spelled = refl }))
constant_forward (const.Str i) rest bits = ap (λ f. behind f (λ i rest. Read (const.Str i) rest)) (number_reads.forward i _ rest (record { small = bits; spelled = refl }))
constant_forward (const.Import w) rest bits = ap (λ f. behind f (λ w rest. Read (const.Import w) rest)) (word_reads.forward w _ rest (record { small = bits; spelled = refl }))

-- no other kind names anything
abbrev kind_if : (b : Bool) → Found Const → Found Const → Found Const
kind_if b this other = if b then this else other

no_kind : (n : ℕ) (field bs : List ℕ) → read_named (suc (suc (suc (suc (suc (suc n)))))) field bs ≡ Wrong field
no_kind n field bs =
    let k = suc (suc (suc (suc (suc (suc n))))) in
    ap (λ b. kind_if b (Read const.Nil bs) (if nat_eq k 1 then Read const.False bs else if nat_eq k 2 then Read const.True bs else if nat_eq k 3 then behind (read_whole bs) (λ z rest. Read (const.Num z) rest) else if nat_eq k 4 then behind (read_number bs) (λ i rest. Read (const.Str i) rest) else if nat_eq k 5 then behind (read_word bs) (λ w rest. Read (const.Import w) rest) else Wrong field)) (ne_eqb k 0 (omega arith))
    ∙ ap (λ b. kind_if b (Read const.False bs) (if nat_eq k 2 then Read const.True bs else if nat_eq k 3 then behind (read_whole bs) (λ z rest. Read (const.Num z) rest) else if nat_eq k 4 then behind (read_number bs) (λ i rest. Read (const.Str i) rest) else if nat_eq k 5 then behind (read_word bs) (λ w rest. Read (const.Import w) rest) else Wrong field)) (ne_eqb k 1 (omega arith))
    ∙ ap (λ b. kind_if b (Read const.True bs) (if nat_eq k 3 then behind (read_whole bs) (λ z rest. Read (const.Num z) rest) else if nat_eq k 4 then behind (read_number bs) (λ i rest. Read (const.Str i) rest) else if nat_eq k 5 then behind (read_word bs) (λ w rest. Read (const.Import w) rest) else Wrong field)) (ne_eqb k 2 (omega arith))
    ∙ ap (λ b. kind_if b (behind (read_whole bs) (λ z rest. Read (const.Num z) rest)) (if nat_eq k 4 then behind (read_number bs) (λ i rest. Read (const.Str i) rest) else if nat_eq k 5 then behind (read_word bs) (λ w rest. Read (const.Import w) rest) else Wrong field)) (ne_eqb k 3 (omega arith))
    ∙ ap (λ b. kind_if b (behind (read_number bs) (λ i rest. Read (const.Str i) rest)) (if nat_eq k 5 then behind (read_word bs) (λ w rest. Read (const.Import w) rest) else Wrong field)) (ne_eqb k 4 (omega arith))
    ∙ ap (λ b. kind_if b (behind (read_word bs) (λ w rest. Read (const.Import w) rest)) (Wrong field)) (ne_eqb k 5 (omega arith))

-- ---- a kind, and what it names

module _ {A : Type 0} (read : List ℕ → Found A) (Is : A → List ℕ → Type 0) (reads : IsReader read Is) (kind : ℕ) (name : A → Const) (named : (a : A) (bytes : List ℕ) → Is a bytes → IsConstant (name a) (kind ∷ bytes)) where
  named_back : (bs : List ℕ) → AreBytes bs → (k : Const) (rest : List ℕ) (f : Found A) → read bs ≡ f → behind f (λ a rest. Read (name a) rest) ≡ Read k rest → IsReadFrom IsConstant (kind ∷ bs) k rest
  named_back bs are k rest Ends e h = absurd (cc)
  named_back bs are k rest (Wrong from) e h = absurd (cc)
  named_back bs are k rest (Read a left) e h =
      let r = reads.back bs are a left e in
      let same : name a ≡ k = cc in
      let end : left ≡ rest = cc in
      record { front = kind ∷ r.front; is = subst (λ k. IsConstant k (kind ∷ r.front)) same (named a r.front r.is); bytes = ap (λ x. kind ∷ x) (r.bytes ∙ ap (λ l. r.front ++ l) end) }

  named_ends : (bs : List ℕ) → AreBytes bs → (f : Found A) → read bs ≡ f → behind f (λ a rest. Read (name a) rest) ≡ Ends → Begins IsConstant (kind ∷ bs)
  named_ends bs are (Wrong from) e h = absurd (cc)
  named_ends bs are (Read a left) e h = absurd (cc)
  named_ends bs are Ends e h =
      let r = reads.ends bs are e in
      record {
        value = name r.value;
        bytes = kind ∷ r.bytes;
        is = named r.value r.bytes r.is;
        more = r.more;
        some = r.some;
        begins = ap (λ x. kind ∷ x) r.begins;
      }

number_named : (z : ℤ) (bytes : List ℕ) → IsWholeOf z bytes → IsConstant (const.Num z) (3 ∷ bytes)
number_named z bytes is = record { bits = is.within; spelled = ap (λ x. 3 ∷ x) is.spelled }

string_named : (i : ℕ) (bytes : List ℕ) → IsNumberOf i bytes → IsConstant (const.Str i) (4 ∷ bytes)
string_named i bytes is = record { bits = is.small; spelled = ap (λ x. 4 ∷ x) is.spelled }

import_named : (w : ℕ) (bytes : List ℕ) → IsWord w bytes → IsConstant (const.Import w) (5 ∷ bytes)
import_named w bytes is = record { bits = is.small; spelled = ap (λ x. 5 ∷ x) is.spelled }

bare : (k : Const) (kind : ℕ) → HasBits k → constant k ≡ kind ∷ [] → (bs : List ℕ) (j : Const) (rest : List ℕ) → Read k bs ≡ Read j rest → IsReadFrom IsConstant (kind ∷ bs) j rest
bare k kind bits spelled bs j rest e =
    let same : k ≡ j = cc in
    let end : bs ≡ rest = cc in
    record {
      front = kind ∷ [];
      is = subst (λ k. IsConstant k (kind ∷ [])) same (record { bits = bits; spelled = sym spelled });
      bytes = ap (λ x. kind ∷ x) end;
    }

constant_back : (bs : List ℕ) → AreBytes bs → (k : Const) (rest : List ℕ) → read_constant bs ≡ Read k rest → IsReadFrom IsConstant bs k rest
constant_back [] are k rest e = absurd (cc)
constant_back (zero ∷ bs) are k rest e = bare const.Nil 0 tt refl bs k rest e
constant_back (suc zero ∷ bs) are k rest e = bare const.False 1 tt refl bs k rest e
constant_back (suc (suc zero) ∷ bs) are k rest e = bare const.True 2 tt refl bs k rest e
constant_back (suc (suc (suc zero)) ∷ bs) are k rest e = named_back read_whole IsWholeOf whole_reads 3 const.Num number_named bs are.1 k rest (read_whole bs) refl e
constant_back (suc (suc (suc (suc zero))) ∷ bs) are k rest e = named_back read_number IsNumberOf number_reads 4 const.Str string_named bs are.1 k rest (read_number bs) refl e
constant_back (suc (suc (suc (suc (suc zero)))) ∷ bs) are k rest e = named_back read_word IsWord word_reads 5 const.Import import_named bs are.1 k rest (read_word bs) refl e
constant_back (suc (suc (suc (suc (suc (suc n))))) ∷ bs) are k rest e =
    let all : List ℕ = suc (suc (suc (suc (suc (suc n))))) ∷ bs in
    let wrong : Wrong all ≡ Read k rest = sym (no_kind n all bs) ∙ e in
    absurd (cc)

constant_ends : (bs : List ℕ) → AreBytes bs → read_constant bs ≡ Ends → Begins IsConstant bs
constant_ends [] are e =
    record { value = const.Nil; bytes = 0 ∷ []; is = record { bits = tt; spelled = refl }; more = 0 ∷ []; some = λ e. absurd (cc); begins = refl }
constant_ends (zero ∷ bs) are e = absurd (cc)
constant_ends (suc zero ∷ bs) are e = absurd (cc)
constant_ends (suc (suc zero) ∷ bs) are e = absurd (cc)
constant_ends (suc (suc (suc zero)) ∷ bs) are e = named_ends read_whole IsWholeOf whole_reads 3 const.Num number_named bs are.1 (read_whole bs) refl e
constant_ends (suc (suc (suc (suc zero))) ∷ bs) are e = named_ends read_number IsNumberOf number_reads 4 const.Str string_named bs are.1 (read_number bs) refl e
constant_ends (suc (suc (suc (suc (suc zero)))) ∷ bs) are e = named_ends read_word IsWord word_reads 5 const.Import import_named bs are.1 (read_word bs) refl e
constant_ends (suc (suc (suc (suc (suc (suc n))))) ∷ bs) are e =
    let all : List ℕ = suc (suc (suc (suc (suc (suc n))))) ∷ bs in
    let wrong : Wrong all ≡ Ends = sym (no_kind n all bs) ∙ e in
    absurd (cc)

-- ---- what is wrong stays so

module _ {A : Type 0} (read : List ℕ → Found A) (Is : A → List ℕ → Type 0) (reads : IsReader read Is) (name : A → Const) where
  inner_wrong : (f : Found A) → IsWrong (behind f (λ a rest. Read (name a) rest)) → IsWrong f
  inner_wrong Ends w = absurd w
  inner_wrong (Read a rest) w = absurd w
  inner_wrong (Wrong from) w = tt

  outer_wrong : (f : Found A) → IsWrong f → IsWrong (behind f (λ a rest. Read (name a) rest))
  outer_wrong Ends w = absurd w
  outer_wrong (Read a rest) w = absurd w
  outer_wrong (Wrong from) w = tt

  named_wrong : (bs more : List ℕ) → AreBytes (bs ++ more) → IsWrong (behind (read bs) (λ a rest. Read (name a) rest)) → IsWrong (behind (read (bs ++ more)) (λ a rest. Read (name a) rest))
  named_wrong bs more are w = outer_wrong (read (bs ++ more)) (reads.wrong bs more are (inner_wrong (read bs) w))

constant_wrong : (bs more : List ℕ) → AreBytes (bs ++ more) → IsWrong (read_constant bs) → IsWrong (read_constant (bs ++ more))
constant_wrong [] more are w = absurd w
constant_wrong (zero ∷ bs) more are w = absurd w
constant_wrong (suc zero ∷ bs) more are w = absurd w
constant_wrong (suc (suc zero) ∷ bs) more are w = absurd w
constant_wrong (suc (suc (suc zero)) ∷ bs) more are w = named_wrong read_whole IsWholeOf whole_reads const.Num bs more are.1 w
constant_wrong (suc (suc (suc (suc zero))) ∷ bs) more are w = named_wrong read_number IsNumberOf number_reads const.Str bs more are.1 w
constant_wrong (suc (suc (suc (suc (suc zero)))) ∷ bs) more are w = named_wrong read_word IsWord word_reads const.Import bs more are.1 w
constant_wrong (suc (suc (suc (suc (suc (suc n))))) ∷ bs) more are w =
    subst IsWrong (sym (no_kind n (suc (suc (suc (suc (suc (suc n))))) ∷ (bs ++ more)) (bs ++ more))) tt

constant_bytes : (k : Const) → HasBits k → AreBytes (constant k)
constant_bytes const.Nil bits = (omega arith, tt)
constant_bytes const.False bits = (omega arith, tt)
constant_bytes const.True bits = (omega arith, tt)
constant_bytes (const.Num z) bits = (omega arith, whole_reads.bytes z _ (record { within = bits; spelled = refl }))
constant_bytes (const.Str i) bits = (omega arith, number_reads.bytes i _ (record { small = bits; spelled = refl }))
constant_bytes (const.Import w) bits = (omega arith, word_reads.bytes w _ (record { small = bits; spelled = refl }))

pub constant_reads : IsReader read_constant IsConstant
constant_reads =
    record {
      forward = λ k front rest is. ap (λ bs. read_constant (bs ++ rest)) is.spelled ∙ constant_forward k rest is.bits;
      back = constant_back;
      ends = constant_ends;
      wrong = constant_wrong;
      bytes = λ k front is. subst AreBytes (sym is.spelled) (constant_bytes k is.bits);
      example = record { value = const.Nil; bytes = 0 ∷ []; is = record { bits = tt; spelled = refl } };
    }
