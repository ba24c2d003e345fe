-- The reader of counts and indices.
use Rattle.std.proofs.Common.{◌≡◌, ◌≢◌, ◌⊎◌, inl, inr, ℕ, zero, suc, ◌+◌, ◌-◌, ◌*◌, ◌/◌, ◌%◌, ◌<◌, ◌≤◌, Bool, true, false, not, ◌&&◌, ◌||◌, nat_eq, nat_lt, List, [], ◌∷◌, ◌++◌, refl, sym, ◌∙◌, ap, subst, arith, if◌then◌else◌}
use Rattle.std.proofs.lemmas.Bool.{eq-eqb, ne_eqb, ltb-true, lt-ltb, le-ltb, cases_lt, and_parts}
use Rattle.chunk_file.specs.Laws.{AreBytes}
use Rattle.chunk_file.specs.Spelling.{IsNumber, number, number_within}
use Rattle.chunk_file.specs.Reading.{Found, Read, Ends, Wrong, behind, number_from, read_number}
use Rattle.chunk_file.proofs.Readers.{IsReadFrom, Begins, IsWrong, IsReader}

-- a number of so many bytes and one more is below this
abbrev limit_of : ℕ → ℕ
limit_of zero = 16
limit_of (suc k) = 128 * limit_of k

at_least : (k : ℕ) → 16 ≤ limit_of k
at_least zero = omega arith
at_least (suc k) = omega (arith, at_least k)

-- the number from a byte on, which is not 0 unless that byte is the first
record IsNumberFrom (k : ℕ) (first : Bool) (n : ℕ) (bytes : List ℕ) : Type 0 where
  small : n < limit_of k
  some : first ≡ false → n ≢ 0
  spelled : bytes ≡ number_within (suc k) n

-- ---- one byte

abbrev last : (small within : Bool) → (b : ℕ) → (rest field : List ℕ) → (onward : Found ℕ) → Found ℕ
last small within b rest field onward = if small then (if within then Read b rest else Wrong field) else onward

is_some : (first : Bool) (n : ℕ) → (first ≡ false → n ≢ 0) → (first || not (nat_eq n 0)) ≡ true
is_some true n h = refl
is_some false n h = ap not (ne_eqb n 0 (h refl))

some_is : (first : Bool) (n : ℕ) → (first || not (nat_eq n 0)) ≡ true → first ≡ false → n ≢ 0
some_is true n e f same = absurd (cc)
some_is false n e f same = absurd (not_both (nat_eq n 0) e (eq-eqb n 0 same))
  where
    not_both : (b : Bool) → not b ≡ true → b ≡ true → ⊥
    not_both true e f = absurd (cc)
    not_both false e f = absurd (cc)

one_byte : (k n : ℕ) → n < 128 → number_within (suc k) n ≡ n ∷ []
one_byte k n less = ap (λ t. if t then n ∷ [] else (n % 128 + 128) ∷ number_within k (n / 128)) (lt-ltb n 128 less)

more_bytes : (k n : ℕ) → 128 ≤ n → number_within (suc k) n ≡ (n % 128 + 128) ∷ number_within k (n / 128)
more_bytes k n more = ap (λ t. if t then n ∷ [] else (n % 128 + 128) ∷ number_within k (n / 128)) (le-ltb n 128 more)

abbrev onward : (most limit : ℕ) → (field : List ℕ) → (b : ℕ) → List ℕ → Found ℕ
onward most limit field b bs =
    if nat_lt 128 limit then behind (number_from most (limit / 128) false field bs) (λ n rest. Read (b - 128 + 128 * n) rest) else Wrong field

read_last : (most limit : ℕ) (first : Bool) (field : List ℕ) (n : ℕ) (rest : List ℕ) → n < 128 → n < limit → (first ≡ false → n ≢ 0) → number_from (suc most) limit first field (n ∷ rest) ≡ Read n rest
read_last most limit first field n rest less within some =
    ap (λ t. last t (nat_lt n limit && (first || not (nat_eq n 0))) n rest field (onward most limit field n rest)) (lt-ltb n 128 less)
    ∙ ap (λ t. last true (t && (first || not (nat_eq n 0))) n rest field (onward most limit field n rest)) (lt-ltb n limit within)
    ∙ ap (λ t. last true (true && t) n rest field (onward most limit field n rest)) (is_some first n some)

read_more : (k : ℕ) (first : Bool) (field : List ℕ) (b : ℕ) (bs : List ℕ) → 128 ≤ b → number_from (suc (suc k)) (limit_of (suc k)) first field (b ∷ bs) ≡ behind (number_from (suc k) (limit_of k) false field bs) (λ n rest. Read (b - 128 + 128 * n) rest)
read_more k first field b bs more =
    let over : 128 < limit_of (suc k) = omega (arith, at_least k) in
    let down : limit_of (suc k) / 128 ≡ limit_of k = omega arith in
    ap (λ t. last t (nat_lt b (limit_of (suc k)) && (first || not (nat_eq b 0))) b bs field (onward (suc k) (limit_of (suc k)) field b bs)) (le-ltb b 128 more)
    ∙ ap (λ t. if t then behind (number_from (suc k) (limit_of (suc k) / 128) false field bs) (λ n rest. Read (b - 128 + 128 * n) rest) else Wrong field) (lt-ltb 128 (limit_of (suc k)) over)
    ∙ ap (λ l. behind (number_from (suc k) l false field bs) (λ n rest. Read (b - 128 + 128 * n) rest)) down

-- ---- what is spelled is read

number_forward : (k : ℕ) (first : Bool) (field : List ℕ) (n : ℕ) (rest : List ℕ) → n < limit_of k → (first ≡ false → n ≢ 0) → number_from (suc k) (limit_of k) first field (number_within (suc k) n ++ rest) ≡ Read n rest
number_forward zero first field n rest small some =
    let less : n < 128 = omega (arith, small) in
    ap (λ bs. number_from 1 16 first field (bs ++ rest)) (one_byte zero n less) ∙ read_last zero 16 first field n rest less small some
number_forward (suc k) first field n rest small some = by (λ less more. number_forward k false field (n / 128) rest less (λ _. more)) (cases_lt n 128)
  where
    by : (n / 128 < limit_of k → n / 128 ≢ 0 → number_from (suc k) (limit_of k) false field (number_within (suc k) (n / 128) ++ rest) ≡ Read (n / 128) rest) → (n < 128) ⊎ (128 ≤ n) → number_from (suc (suc k)) (limit_of (suc k)) first field (number_within (suc (suc k)) n ++ rest) ≡ Read n rest
    by next (inl less) =
        ap (λ bs. number_from (suc (suc k)) (limit_of (suc k)) first field (bs ++ rest)) (one_byte (suc k) n less)
        ∙ read_last (suc k) (limit_of (suc k)) first field n rest less small some
    by next (inr more) =
        let less : n / 128 < limit_of k = omega (arith, small) in
        let is_more : n / 128 ≢ 0 = omega (arith, more) in
        let whole : n % 128 + 128 - 128 + 128 * (n / 128) ≡ n = omega arith in
        ap (λ bs. number_from (suc (suc k)) (limit_of (suc k)) first field (bs ++ rest)) (more_bytes (suc k) n more)
        ∙ read_more k first field (n % 128 + 128) (number_within (suc k) (n / 128) ++ rest) (omega arith)
        ∙ ap (λ f. behind f (λ m rest. Read (n % 128 + 128 - 128 + 128 * m) rest)) (next less is_more)
        ∙ ap (λ m. Read m rest) whole

-- ---- what is read is spelled

last_back : (k : ℕ) (first : Bool) (field : List ℕ) (b n : ℕ) (bs rest : List ℕ) (w : Bool) → (nat_lt b (limit_of k) && (first || not (nat_eq b 0))) ≡ w → b < 128 → (if w then Read b bs else Wrong field) ≡ Read n rest → IsReadFrom (IsNumberFrom k first) (b ∷ bs) n rest
last_back k first field b n bs rest true e less h =
    let same : b ≡ n = cc in
    let left : bs ≡ rest = cc in
    let parts = and_parts (nat_lt b (limit_of k)) (first || not (nat_eq b 0)) e in
    record {
      front = n ∷ [];
      is = record {
        small = subst (λ x. x < limit_of k) same (ltb-true b (limit_of k) parts.0);
        some = subst (λ x. first ≡ false → x ≢ 0) same (some_is first b parts.1);
        spelled = sym (one_byte k n (subst (λ x. x < 128) same less));
      };
      bytes = ap (λ x. x ∷ bs) same ∙ ap (λ x. n ∷ x) left;
    }
last_back k first field b n bs rest false e less h = absurd (cc)

number_back : (k : ℕ) (first : Bool) (field bs : List ℕ) → AreBytes bs → (n : ℕ) (rest : List ℕ) → number_from (suc k) (limit_of k) first field bs ≡ Read n rest → IsReadFrom (IsNumberFrom k first) bs n rest
number_back k first field [] are n rest e = absurd (cc)
number_back zero first field (b ∷ bs) are n rest e = by (cases_lt b 128)
  where
    by : (b < 128) ⊎ (128 ≤ b) → IsReadFrom (IsNumberFrom zero first) (b ∷ bs) n rest
    by (inl less) =
        last_back zero first field b n bs rest (nat_lt b 16 && (first || not (nat_eq b 0))) refl less
        (ap (λ t. last t (nat_lt b 16 && (first || not (nat_eq b 0))) b bs field (onward zero 16 field b bs)) (sym (lt-ltb b 128 less)) ∙ e)
    by (inr more) =
        let wrong : Wrong field ≡ Read n rest = ap (λ t. last t (nat_lt b 16 && (first || not (nat_eq b 0))) b bs field (onward zero 16 field b bs)) (sym (le-ltb b 128 more)) ∙ e in
        absurd (cc)
number_back (suc k) first field (b ∷ bs) are n rest e = by (λ m left h. number_back k false field bs are.1 m left h) (cases_lt b 128)
  where
    further : ((m : ℕ) (left : List ℕ) → number_from (suc k) (limit_of k) false field bs ≡ Read m left → IsReadFrom (IsNumberFrom k false) bs m left) → (f : Found ℕ) → number_from (suc k) (limit_of k) false field bs ≡ f → 128 ≤ b → behind f (λ m rest. Read (b - 128 + 128 * m) rest) ≡ Read n rest → IsReadFrom (IsNumberFrom (suc k) first) (b ∷ bs) n rest
    further next Ends h more g = absurd (cc)
    further next (Wrong from) h more g = absurd (cc)
    further next (Read m left) h more g =
        let inner = next m left h in
        let value : b - 128 + 128 * m ≡ n = cc in
        let same : left ≡ rest = cc in
        let byte : b < 256 = are.0 in
        let not_zero : m ≢ 0 = inner.is.some refl in
        let high : n / 128 ≡ m = omega (arith, value, byte, more) in
        let low : n % 128 + 128 ≡ b = omega (arith, value, byte, more) in
        let over : 128 ≤ n = omega (arith, value, not_zero) in
        record {
          front = b ∷ inner.front;
          is = record {
            small = omega (arith, value, byte, more, inner.is.small);
            some = λ _. omega (arith, over);
            spelled = ap (λ x. b ∷ x) inner.is.spelled ∙ ap (λ x. b ∷ number_within (suc k) x) (sym high) ∙ ap (λ x. x ∷ number_within (suc k) (n / 128)) (sym low) ∙ sym (more_bytes (suc k) n over);
          };
          bytes = ap (λ x. b ∷ x) (inner.bytes ∙ ap (λ r. inner.front ++ r) same);
        }

    by : ((m : ℕ) (left : List ℕ) → number_from (suc k) (limit_of k) false field bs ≡ Read m left → IsReadFrom (IsNumberFrom k false) bs m left) → (b < 128) ⊎ (128 ≤ b) → IsReadFrom (IsNumberFrom (suc k) first) (b ∷ bs) n rest
    by next (inl less) =
        last_back (suc k) first field b n bs rest (nat_lt b (limit_of (suc k)) && (first || not (nat_eq b 0))) refl less
        (ap (λ t. last t (nat_lt b (limit_of (suc k)) && (first || not (nat_eq b 0))) b bs field (onward (suc k) (limit_of (suc k)) field b bs)) (sym (lt-ltb b 128 less)) ∙ e)
    by next (inr more) = further next (number_from (suc k) (limit_of k) false field bs) refl more (sym (read_more k first field b bs more) ∙ e)

-- ---- where the bytes end, a number goes on

last_never : (w : Bool) (b : ℕ) (bs field : List ℕ) → (if w then Read b bs else Wrong field) ≡ Ends → ⊥
last_never true b bs field e = absurd (cc)
last_never false b bs field e = absurd (cc)

number_ends : (k : ℕ) (first : Bool) (field bs : List ℕ) → AreBytes bs → number_from (suc k) (limit_of k) first field bs ≡ Ends → Begins (IsNumberFrom k first) bs
number_ends k first field [] are e =
    record {
      value = 1;
      bytes = 1 ∷ [];
      is = record { small = omega (arith, at_least k); some = λ _. omega arith; spelled = sym (one_byte k 1 (omega arith)) };
      more = 1 ∷ [];
      some = λ e. absurd (cc);
      begins = refl;
    }
number_ends zero first field (b ∷ bs) are e = by (cases_lt b 128)
  where
    by : (b < 128) ⊎ (128 ≤ b) → Begins (IsNumberFrom zero first) (b ∷ bs)
    by (inl less) =
        absurd (last_never (nat_lt b 16 && (first || not (nat_eq b 0))) b bs field
        (ap (λ t. last t (nat_lt b 16 && (first || not (nat_eq b 0))) b bs field (onward zero 16 field b bs)) (sym (lt-ltb b 128 less)) ∙ e))
    by (inr more) =
        let wrong : Wrong field ≡ Ends = ap (λ t. last t (nat_lt b 16 && (first || not (nat_eq b 0))) b bs field (onward zero 16 field b bs)) (sym (le-ltb b 128 more)) ∙ e in
        absurd (cc)
number_ends (suc k) first field (b ∷ bs) are e = by (λ h. number_ends k false field bs are.1 h) (cases_lt b 128)
  where
    further : (number_from (suc k) (limit_of k) false field bs ≡ Ends → Begins (IsNumberFrom k false) bs) → (f : Found ℕ) → number_from (suc k) (limit_of k) false field bs ≡ f → 128 ≤ b → behind f (λ m rest. Read (b - 128 + 128 * m) rest) ≡ Ends → Begins (IsNumberFrom (suc k) first) (b ∷ bs)
    further next (Wrong from) h more g = absurd (cc)
    further next (Read m left) h more g = absurd (cc)
    further next Ends h more g =
        let inner = next h in
        let m = inner.value in
        let n = b - 128 + 128 * m in
        let byte : b < 256 = are.0 in
        let not_zero : m ≢ 0 = inner.is.some refl in
        let high : n / 128 ≡ m = omega (arith, byte, more) in
        let low : n % 128 + 128 ≡ b = omega (arith, byte, more) in
        let over : 128 ≤ n = omega (arith, not_zero) in
        record {
          value = n;
          bytes = b ∷ inner.bytes;
          is = record {
            small = omega (arith, byte, more, inner.is.small);
            some = λ _. omega (arith, over);
            spelled = ap (λ x. b ∷ x) inner.is.spelled ∙ ap (λ x. b ∷ number_within (suc k) x) (sym high) ∙ ap (λ x. x ∷ number_within (suc k) (n / 128)) (sym low) ∙ sym (more_bytes (suc k) n over);
          };
          more = inner.more;
          some = inner.some;
          begins = ap (λ x. b ∷ x) inner.begins;
        }

    by : (number_from (suc k) (limit_of k) false field bs ≡ Ends → Begins (IsNumberFrom k false) bs) → (b < 128) ⊎ (128 ≤ b) → Begins (IsNumberFrom (suc k) first) (b ∷ bs)
    by next (inl less) =
        absurd (last_never (nat_lt b (limit_of (suc k)) && (first || not (nat_eq b 0))) b bs field
        (ap (λ t. last t (nat_lt b (limit_of (suc k)) && (first || not (nat_eq b 0))) b bs field (onward (suc k) (limit_of (suc k)) field b bs)) (sym (lt-ltb b 128 less)) ∙ e))
    by next (inr more) = further next (number_from (suc k) (limit_of k) false field bs) refl more (sym (read_more k first field b bs more) ∙ e)

-- ---- what is wrong stays so, whatever follows

last_wrong : (w : Bool) (b : ℕ) (bs more field field' : List ℕ) → IsWrong (if w then Read b bs else Wrong field) → IsWrong (if w then Read b (bs ++ more) else Wrong field')
last_wrong true b bs more field field' h = absurd h
last_wrong false b bs more field field' h = tt

still_wrong : (b : ℕ) (f g : Found ℕ) → (IsWrong f → IsWrong g) → IsWrong (behind f (λ m rest. Read (b - 128 + 128 * m) rest)) → IsWrong (behind g (λ m rest. Read (b - 128 + 128 * m) rest))
still_wrong b Ends g next h = absurd h
still_wrong b (Read m left) g next h = absurd h
still_wrong b (Wrong from) g next h = by g (next tt)
  where
    by : (g : Found ℕ) → IsWrong g → IsWrong (behind g (λ m rest. Read (b - 128 + 128 * m) rest))
    by Ends h = absurd h
    by (Read m left) h = absurd h
    by (Wrong from) h = tt

number_wrong : (k : ℕ) (first : Bool) (field field' bs more : List ℕ) → IsWrong (number_from (suc k) (limit_of k) first field bs) → IsWrong (number_from (suc k) (limit_of k) first field' (bs ++ more))
number_wrong k first field field' [] more h = absurd h
number_wrong zero first field field' (b ∷ bs) more h = by (cases_lt b 128)
  where
    w : Bool
    w = nat_lt b 16 && (first || not (nat_eq b 0))

    by : (b < 128) ⊎ (128 ≤ b) → IsWrong (number_from 1 16 first field' (b ∷ (bs ++ more)))
    by (inl less) =
        subst IsWrong (ap (λ t. last t w b (bs ++ more) field' (onward zero 16 field' b (bs ++ more))) (sym (lt-ltb b 128 less)))
        (last_wrong w b bs more field field' (subst IsWrong (ap (λ t. last t w b bs field (onward zero 16 field b bs)) (lt-ltb b 128 less)) h))
    by (inr more') =
        subst IsWrong (ap (λ t. last t w b (bs ++ more) field' (onward zero 16 field' b (bs ++ more))) (sym (le-ltb b 128 more'))) tt
number_wrong (suc k) first field field' (b ∷ bs) more h = by (number_wrong k false field field' bs more) (cases_lt b 128)
  where
    w : Bool
    w = nat_lt b (limit_of (suc k)) && (first || not (nat_eq b 0))

    by : (IsWrong (number_from (suc k) (limit_of k) false field bs) → IsWrong (number_from (suc k) (limit_of k) false field' (bs ++ more))) → (b < 128) ⊎ (128 ≤ b) → IsWrong (number_from (suc (suc k)) (limit_of (suc k)) first field' (b ∷ (bs ++ more)))
    by next (inl less) =
        subst IsWrong (ap (λ t. last t w b (bs ++ more) field' (onward (suc k) (limit_of (suc k)) field' b (bs ++ more))) (sym (lt-ltb b 128 less)))
        (last_wrong w b bs more field field' (subst IsWrong (ap (λ t. last t w b bs field (onward (suc k) (limit_of (suc k)) field b bs)) (lt-ltb b 128 less)) h))
    by next (inr over) =
        subst IsWrong (sym (read_more k first field' b (bs ++ more) over))
        (still_wrong b (number_from (suc k) (limit_of k) false field bs) (number_from (suc k) (limit_of k) false field' (bs ++ more)) next (subst IsWrong (read_more k first field b bs over) h))

-- ---- its bytes

number_bytes : (most n : ℕ) → AreBytes (number_within most n)
number_bytes zero n = tt
number_bytes (suc most) n = by (number_bytes most (n / 128)) (nat_lt n 128) refl
  where
    by : AreBytes (number_within most (n / 128)) → (b : Bool) → nat_lt n 128 ≡ b → AreBytes (if b then n ∷ [] else (n % 128 + 128) ∷ number_within most (n / 128))
    by rest true e = let less = ltb-true n 128 e in (omega (arith, less), tt)
    by rest false e = (omega arith, rest)

-- ---- numbers below 2 ^ 32

pub record IsNumberOf (n : ℕ) (bytes : List ℕ) : Type 0 where
  pub small : IsNumber n
  pub spelled : bytes ≡ number n

pub number_reads : IsReader read_number IsNumberOf
unfolding read_number number
number_reads =
    record {
      forward = λ n front rest is. ap (λ bs. read_number (bs ++ rest)) is.spelled ∙ number_forward 4 true (number n ++ rest) n rest is.small (λ e. absurd (cc));
      back = λ bs are n rest e. let r = number_back 4 true bs bs are n rest e in record { front = r.front; is = record { small = r.is.small; spelled = r.is.spelled }; bytes = r.bytes };
      ends = λ bs are e. let r = number_ends 4 true bs bs are e in record {
        value = r.value;
        bytes = r.bytes;
        is = record { small = r.is.small; spelled = r.is.spelled };
        more = r.more;
        some = r.some;
        begins = r.begins;
      };
      bytes = λ n front is. subst AreBytes (sym is.spelled) (number_bytes 5 n);
      wrong = λ bs more are w. number_wrong 4 true bs (bs ++ more) bs more w;
      example = record { value = 0; bytes = 0 ∷ []; is = record { small = omega arith; spelled = refl } };
    }
