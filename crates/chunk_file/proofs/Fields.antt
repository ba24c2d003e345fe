-- Readers of single fields.
use Rattle.std.proofs.Common.{◌≡◌, ◌≢◌, ℕ, zero, suc, ◌+◌, ◌-◌, ◌<◌, ◌≤◌, Bool, true, false, nat_eq, nat_le, List, [], ◌∷◌, ◌++◌, length, take, drop, replicate, refl, sym, ◌∙◌, ap, subst, arith, if◌then◌else◌}
use Rattle.std.proofs.lemmas.Bool.{eqb-true, leb-true, leb-false, le-leb}
use Rattle.chunk_file.specs.Laws.{AreBytes}
use Rattle.chunk_file.specs.Spelling.{IsByte, flag}
use Rattle.chunk_file.specs.Reading.{Found, Read, Ends, Wrong, read_byte, read_flag, read_bytes}
use Rattle.chunk_file.proofs.Readers.{IsReadFrom, Begins, IsWrong, IsReader, bytes_in_front, bytes_joined}

-- ---- a byte

pub record IsOneByte (b : ℕ) (bytes : List ℕ) : Type 0 where
  pub byte : IsByte b
  pub one : bytes ≡ b ∷ []

pub byte_reads : IsReader read_byte IsOneByte
byte_reads =
    record {
      forward = λ b front rest is. ap (λ f. read_byte (f ++ rest)) is.one;
      back = back;
      ends = ends;
      wrong = wrong;
      bytes = λ b front is. subst AreBytes (sym is.one) (is.byte, tt);
      example = record { value = 0; bytes = 0 ∷ []; is = record { byte = omega arith; one = refl } };
    }
  where
    back : (bs : List ℕ) → AreBytes bs → (b : ℕ) (rest : List ℕ) → read_byte bs ≡ Read b rest → IsReadFrom IsOneByte bs b rest
    back [] are b rest e = absurd (cc)
    back (c ∷ cs) are b rest e =
        let same : c ≡ b = cc in
        let left : cs ≡ rest = cc in
        record { front = b ∷ []; is = record { byte = subst IsByte same are.0; one = refl }; bytes = ap (λ x. x ∷ cs) same ∙ ap (λ x. b ∷ x) left }

    ends : (bs : List ℕ) → AreBytes bs → read_byte bs ≡ Ends → Begins IsOneByte bs
    ends [] are e = record { value = 0; bytes = 0 ∷ []; is = record { byte = omega arith; one = refl }; more = 0 ∷ []; some = λ e. absurd (cc); begins = refl }
    ends (c ∷ cs) are e = absurd (cc)

    wrong : (bs more : List ℕ) → AreBytes (bs ++ more) → IsWrong (read_byte bs) → IsWrong (read_byte (bs ++ more))
    wrong [] more are w = absurd w
    wrong (c ∷ cs) more are w = absurd w

-- ---- a flag

abbrev pub IsFlag : Bool → List ℕ → Type 0
IsFlag v bytes = bytes ≡ flag v ∷ []

abbrev flagged : (is_zero is_one : Bool) → ℕ → List ℕ → Found Bool
flagged z o c cs = if z then Read false cs else if o then Read true cs else Wrong (c ∷ cs)

pub flag_reads : IsReader read_flag IsFlag
flag_reads =
    record {
      forward = forward;
      back = back;
      ends = ends;
      wrong = wrong;
      bytes = bytes;
      example = record { value = false; bytes = 0 ∷ []; is = refl };
    }
  where
    forward : (v : Bool) (front rest : List ℕ) → IsFlag v front → read_flag (front ++ rest) ≡ Read v rest
    forward false front rest is = ap (λ f. read_flag (f ++ rest)) is
    forward true front rest is = ap (λ f. read_flag (f ++ rest)) is

    which : (c : ℕ) (cs : List ℕ) (v : Bool) (rest : List ℕ) (z o : Bool) → nat_eq c 0 ≡ z → nat_eq c 1 ≡ o → flagged z o c cs ≡ Read v rest → (c ≡ flag v) × (cs ≡ rest)
    which c cs v rest true o e f h = let is : false ≡ v = cc in (eqb-true c 0 e ∙ ap flag is, cc)
    which c cs v rest false true e f h = let is : true ≡ v = cc in (eqb-true c 1 f ∙ ap flag is, cc)
    which c cs v rest false false e f h = absurd (cc)

    back : (bs : List ℕ) → AreBytes bs → (v : Bool) (rest : List ℕ) → read_flag bs ≡ Read v rest → IsReadFrom IsFlag bs v rest
    back [] are v rest e = absurd (cc)
    back (c ∷ cs) are v rest e =
        let h = which c cs v rest (nat_eq c 0) (nat_eq c 1) refl refl e in
        record { front = flag v ∷ []; is = refl; bytes = ap (λ x. x ∷ cs) h.0 ∙ ap (λ x. flag v ∷ x) h.1 }

    never : (c : ℕ) (cs : List ℕ) (z o : Bool) → flagged z o c cs ≡ Ends → ⊥
    never c cs true o e = cc
    never c cs false true e = cc
    never c cs false false e = cc

    ends : (bs : List ℕ) → AreBytes bs → read_flag bs ≡ Ends → Begins IsFlag bs
    ends [] are e = record { value = false; bytes = 0 ∷ []; is = refl; more = 0 ∷ []; some = λ e. absurd (cc); begins = refl }
    ends (c ∷ cs) are e = absurd (never c cs (nat_eq c 0) (nat_eq c 1) e)

    bytes : (v : Bool) (front : List ℕ) → IsFlag v front → AreBytes front
    bytes false front is = subst AreBytes (sym is) (omega arith, tt)
    bytes true front is = subst AreBytes (sym is) (omega arith, tt)

    still : (z o : Bool) (c : ℕ) (cs more : List ℕ) → IsWrong (flagged z o c cs) → IsWrong (flagged z o c (cs ++ more))
    still true o c cs more w = absurd w
    still false true c cs more w = absurd w
    still false false c cs more w = tt

    wrong : (bs more : List ℕ) → AreBytes (bs ++ more) → IsWrong (read_flag bs) → IsWrong (read_flag (bs ++ more))
    wrong [] more are w = absurd w
    wrong (c ∷ cs) more are w = still (nat_eq c 0) (nat_eq c 1) c cs more w

-- ---- so many bytes

pub record IsPiece (count : ℕ) (piece bytes : List ℕ) : Type 0 where
  pub many : length piece ≡ count
  pub are : AreBytes piece
  pub same : bytes ≡ piece

pub take_all : (xs ys : List ℕ) → take (length xs) (xs ++ ys) ≡ xs
take_all [] ys = refl
take_all (x ∷ xs) ys = ap (λ t. x ∷ t) (take_all xs ys)

drop_all : (xs ys : List ℕ) → drop (length xs) (xs ++ ys) ≡ ys
drop_all [] ys = refl
drop_all (x ∷ xs) ys = drop_all xs ys

pub long : (xs ys : List ℕ) → length xs ≤ length (xs ++ ys)
long [] ys = omega arith
long (x ∷ xs) ys = omega (arith, long xs ys)

pub take_drop : (n : ℕ) (xs : List ℕ) → xs ≡ take n xs ++ drop n xs
take_drop zero xs = refl
take_drop (suc n) [] = refl
take_drop (suc n) (x ∷ xs) = ap (λ t. x ∷ t) (take_drop n xs)

pub taken : (n : ℕ) (xs : List ℕ) → n ≤ length xs → length (take n xs) ≡ n
taken zero xs h = refl
taken (suc n) [] h = absurd (omega (arith, h))
taken (suc n) (x ∷ xs) h = ap suc (taken n xs (omega (arith, h)))

abbrev pub filling : ℕ → List ℕ
filling n = replicate n 0

pub zeros : (n : ℕ) → AreBytes (filling n)
zeros zero = tt
zeros (suc n) = (omega arith, zeros n)

pub zeros_many : (n : ℕ) → length (filling n) ≡ n
zeros_many zero = refl
zeros_many (suc n) = ap suc (zeros_many n)

joined_many : (xs ys : List ℕ) → length (xs ++ ys) ≡ length xs + length ys
joined_many [] ys = omega arith
joined_many (x ∷ xs) ys = omega (arith, joined_many xs ys)

module _ (count : ℕ) where
  abbrev piece_if : Bool → List ℕ → Found (List ℕ)
  piece_if b bs = if b then Read (take count bs) (drop count bs) else Ends

  piece_forward : (piece front rest : List ℕ) → IsPiece count piece front → read_bytes count (front ++ rest) ≡ Read piece rest
  piece_forward piece front rest is =
      ap (λ f. read_bytes count (f ++ rest)) is.same
      ∙ ap (λ n. if nat_le n (length (piece ++ rest)) then Read (take n (piece ++ rest)) (drop n (piece ++ rest)) else Ends) (sym is.many)
      ∙ ap (λ b. if b then Read (take (length piece) (piece ++ rest)) (drop (length piece) (piece ++ rest)) else Ends) (le-leb (length piece) (length (piece ++ rest)) (long piece rest))
      ∙ ap (λ t. Read t (drop (length piece) (piece ++ rest))) (take_all piece rest)
      ∙ ap (λ d. Read piece d) (drop_all piece rest)

  piece_back : (bs : List ℕ) → AreBytes bs → (piece rest : List ℕ) (b : Bool) → nat_le count (length bs) ≡ b → piece_if b bs ≡ Read piece rest → IsReadFrom (IsPiece count) bs piece rest
  piece_back bs are piece rest true e h =
      let same : take count bs ≡ piece = cc in
      let left : drop count bs ≡ rest = cc in
      let split = take_drop count bs in
      record {
        front = piece;
        is = record {
          many = ap length (sym same) ∙ taken count bs (leb-true count (length bs) e);
          are = subst AreBytes same (bytes_in_front (take count bs) (drop count bs) (subst AreBytes split are));
          same = refl;
        };
        bytes = split ∙ ap (λ t. t ++ drop count bs) same ∙ ap (λ d. piece ++ d) left;
      }
  piece_back bs are piece rest false e h = absurd (cc)

  piece_ends : (bs : List ℕ) → AreBytes bs → (b : Bool) → nat_le count (length bs) ≡ b → piece_if b bs ≡ Ends → Begins (IsPiece count) bs
  piece_ends bs are true e h = absurd (cc)
  piece_ends bs are false e h =
      let less : length bs < count = leb-false count (length bs) e in
      let more = filling (count - length bs) in
      record {
        value = bs ++ more;
        bytes = bs ++ more;
        is = record {
          many = omega (arith, joined_many bs more, zeros_many (count - length bs), less);
          are = bytes_joined bs more are (zeros (count - length bs));
          same = refl;
        };
        more = more;
        some = some (count - length bs) (omega (arith, less));
        begins = refl;
      }
    where
      some : (n : ℕ) → 0 < n → filling n ≢ []
      some zero h e = absurd (omega (arith, h))
      some (suc n) h e = absurd (cc)

  piece_never : (b : Bool) (bs : List ℕ) → IsWrong (piece_if b bs) → ⊥
  piece_never true bs w = w
  piece_never false bs w = w

  pub piece_reads : IsReader (read_bytes count) (IsPiece count)
  piece_reads =
      record {
        forward = piece_forward;
        back = λ bs are piece rest e. piece_back bs are piece rest (nat_le count (length bs)) refl e;
        ends = λ bs are e. piece_ends bs are (nat_le count (length bs)) refl e;
        bytes = λ piece front is. subst AreBytes (sym is.same) is.are;
        wrong = λ bs more are w. absurd (piece_never (nat_le count (length bs)) bs w);
        example = record { value = filling count; bytes = filling count; is = record { many = zeros_many count; are = zeros count; same = refl } };
      }
