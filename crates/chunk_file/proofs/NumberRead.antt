-- How far a number is read, byte by byte.
use Rattle.std.proofs.Common.{◌≡◌, ◌≢◌, ℕ, zero, suc, ◌+◌, ◌-◌, ◌*◌, ◌/◌, ◌^◌, ◌<◌, ◌≤◌, Bool, true, false, not, ◌&&◌, ◌||◌, nat_lt, nat_eq, List, ◌∷◌, ◌⊎◌, inl, inr, refl, sym, ◌∙◌, ap, arith, if◌then◌else◌}
use Rattle.std.proofs.Math.Nat.{mul-le-mul_left, mul-le-mul_right}
use Rattle.std.proofs.lemmas.Bool.{lt-ltb, le-ltb, eq-eqb, ne_eqb}
use Rattle.chunk_file.specs.Reading.{Found, Read, Ends, Wrong, behind, number_from, read_number}

-- a number, what of it is read, and what is left to read
pub record NumberRead (start left : List ℕ) (place number unit limit : ℕ) : Type 0 where
  pub most : ℕ
  pub turns : place + most ≡ 5
  pub small : number < unit
  pub room : unit * limit ≤ 2 ^ 32
  pub so_far : read_number start ≡ behind (number_from most limit (nat_eq place 0) start left) (λ n rest. Read (number + unit * n) rest)

added_none : (f : Found ℕ) → f ≡ behind f (λ n rest. Read (0 + 1 * n) rest)
added_none (Read n rest) = ap (λ m. Read m rest) (omega arith)
added_none Ends = refl
added_none (Wrong from) = refl

pub number_starts : (start : List ℕ) → NumberRead start start 0 0 1 (2 ^ 32)
unfolding read_number
number_starts start =
    record { most = 5; turns = refl; small = omega arith; room = omega arith; so_far = added_none (number_from 5 (2 ^ 32) true start start) }

abbrev pick : {A : Type 0} → Bool → A → A → A
pick b x y = if b then x else y

-- the turn at a byte
abbrev turn : (most limit : ℕ) → (first : Bool) → (field : List ℕ) → (last in_range goes_on : Bool) → ℕ → List ℕ → Found ℕ
turn most limit first field last in_range goes_on b bs =
    if last then (if in_range && (first || not (nat_eq b 0)) then Read b bs else Wrong field)
    else if goes_on then behind (number_from most (limit / 128) false field bs) (λ n rest. Read (b - 128 + 128 * n) rest)
    else Wrong field

abbrev added : (number unit : ℕ) → Found ℕ → Found ℕ
added number unit f = behind f (λ n rest. Read (number + unit * n) rest)

last_byte : (most limit : ℕ) (first : Bool) (field : List ℕ) (b : ℕ) (bs : List ℕ) → b < 128 → b < limit → (first || not (nat_eq b 0)) ≡ true
    → number_from (suc most) limit first field (b ∷ bs) ≡ Read b bs
last_byte most limit first field b bs low in_range shortest =
    ap (λ t. turn most limit first field t (nat_lt b limit) (nat_lt 128 limit) b bs) (lt-ltb b 128 low)
    ∙ ap (λ t. turn most limit first field true t (nat_lt 128 limit) b bs) (lt-ltb b limit in_range)
    ∙ ap (λ t. pick t (Read b bs) (Wrong field)) shortest

further_byte : (most limit : ℕ) (first : Bool) (field : List ℕ) (b : ℕ) (bs : List ℕ) → 128 ≤ b → 128 < limit
    → number_from (suc most) limit first field (b ∷ bs)
    ≡ behind (number_from most (limit / 128) false field bs) (λ n rest. Read (b - 128 + 128 * n) rest)
further_byte most limit first field b bs high more =
    ap (λ t. turn most limit first field t (nat_lt b limit) (nat_lt 128 limit) b bs) (le-ltb b 128 high)
    ∙ ap (λ t. turn most limit first field false (nat_lt b limit) t b bs) (lt-ltb 128 limit more)

ended : (start rest : List ℕ) (most limit number unit byte : ℕ) (first : Bool) → 0 < most → byte < 128 → byte < limit
    → (first || not (nat_eq byte 0)) ≡ true
    → read_number start ≡ added number unit (number_from most limit first start (byte ∷ rest)) → read_number start ≡ Read (number + byte * unit) rest
ended start rest zero limit number unit byte first some low in_range shortest so_far = absurd (omega arith)
ended start rest (suc most) limit number unit byte first some low in_range shortest so_far =
    so_far ∙ ap (added number unit) (last_byte most limit first start byte rest low in_range shortest) ∙ ap (λ n. Read n rest) (grind arith)

-- a last byte is not 0, unless it is the first
shortest_byte : (place byte : ℕ) → (place ≡ 0) ⊎ ((place ≢ 0) × (byte ≢ 0)) → (nat_eq place 0 || not (nat_eq byte 0)) ≡ true
shortest_byte place byte (inl e) = ap (λ t. t || not (nat_eq byte 0)) (eq-eqb place 0 e)
shortest_byte place byte (inr h) = ap (λ t. t || not (nat_eq byte 0)) (ne_eqb place 0 h.0) ∙ ap not (ne_eqb byte 0 h.1)

pub number_ends : (start left rest : List ℕ) (place number unit limit byte : ℕ) → NumberRead start left place number unit limit → place < 5
    → left ≡ byte ∷ rest → byte < 128 → byte < limit
    → (place ≡ 0) ⊎ ((place ≢ 0) × (byte ≢ 0)) → read_number start ≡ Read (number + byte * unit) rest
number_ends start left rest place number unit limit byte read turns begins low in_range shortest =
    ended start rest read.most limit number unit byte (nat_eq place 0) (omega (arith, read.turns)) low in_range (shortest_byte place byte shortest)
    (read.so_far ∙ ap (λ l. added number unit (number_from read.most limit (nat_eq place 0) start l)) begins)

added_twice : (number unit byte : ℕ) (f : Found ℕ)
    → added number unit (behind f (λ n rest. Read (byte + 128 * n) rest)) ≡ added (number + byte * unit) (unit * 128) f
added_twice number unit byte (Read n rest) = ap (λ m. Read m rest) (grind arith)
added_twice number unit byte Ends = refl
added_twice number unit byte (Wrong from) = refl

-- the room shrinks by what a byte takes
room_stays : (unit limit : ℕ) → unit * limit ≤ 2 ^ 32 → unit * 128 * (limit / 128) ≤ 2 ^ 32
room_stays unit limit room =
    let less : 128 * (limit / 128) ≤ limit = omega arith in
    omega (arith, mul-le-mul_left unit less)

number_small : (number unit byte : ℕ) → number < unit → byte < 128 → number + byte * unit < unit * 128
number_small number unit byte small low =
    let most : byte * unit ≤ 127 * unit = mul-le-mul_right unit (omega arith) in
    omega arith

gone_on : (start left rest : List ℕ) (place number unit limit byte most : ℕ) → place + most ≡ 5 → number < unit → unit * limit ≤ 2 ^ 32 → place < 5
    → 128 ≤ byte → byte < 256 → 128 < limit
    → read_number start ≡ added number unit (number_from most limit (nat_eq place 0) start (byte ∷ rest))
    → NumberRead start rest (place + 1) (number + (byte - 128) * unit) (unit * 128) (limit / 128)
gone_on start left rest place number unit limit byte zero turns small room within high fits more so_far = absurd (omega arith)
gone_on start left rest place number unit limit byte (suc most) turns small room within high fits more so_far =
    record {
      most = most;
      turns = omega arith;
      small = number_small number unit (byte - 128) small (omega arith);
      room = room_stays unit limit room;
      so_far = so_far ∙ ap (added number unit) (further_byte most limit (nat_eq place 0) start byte rest high more)
          ∙ added_twice number unit (byte - 128) (number_from most (limit / 128) false start rest)
          ∙ ap (λ t. added (number + (byte - 128) * unit) (unit * 128) (number_from most (limit / 128) t start rest))
          (sym (ne_eqb (place + 1) 0 (omega arith)));
    }

pub number_goes_on : (start left rest : List ℕ) (place number unit limit byte : ℕ) → NumberRead start left place number unit limit → place < 5
    → left ≡ byte ∷ rest → 128 ≤ byte → byte < 256 → 128 < limit
    → NumberRead start rest (place + 1) (number + (byte - 128) * unit) (unit * 128) (limit / 128)
number_goes_on start left rest place number unit limit byte read within begins high fits more =
    gone_on start left rest place number unit limit byte read.most read.turns read.small read.room within high fits more
    (read.so_far ∙ ap (λ l. added number unit (number_from read.most limit (nat_eq place 0) start l)) begins)
