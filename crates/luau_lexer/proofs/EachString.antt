-- Each text has a body of a string at its front.
use Rattle.std.proofs.Common.{◌≡◌, ℕ, zero, suc, ◌+◌, ◌<◌, ◌≤◌, min, Bool, true, false, cond, nat_eq, nat_le, nat_lt, ◌&&◌, List, [], ◌∷◌, length, take, drop, refl, sym, subst, arith, inl, inr, length-drop}
use Rattle.std.specs.List.{prefix_len}
use Rattle.std.specs.Str.Parse.{digits_value}
use Rattle.syntax_tree.specs.Bytes.{is_digit, is_hex_digit, is_line_feed, begins}
use Rattle.syntax_tree.specs.Gaps.{blanks_len}
use Rattle.syntax_tree.specs.Strings.{Part, Inner, Closing, Malformed, Unfinished, Span, AreInTurn, spans_text, spans_len, utf8, escaped, decimal_escape, hex_escape, code_digits, code_escape, escape, part_at, raw_escape, raw_part_at, Body, Closed, Unclosed, Broken, HasBody, Breaks}
use Rattle.luau_lexer.proofs.UniqueStrings.{IsLast}

-- a span has some bytes
abbrev IsForward : Part → Type 0
IsForward (Inner len text) = 0 < len
IsForward _ = Unit {0}

-- the same, of what is never malformed
abbrev IsRaw : Part → Type 0
IsRaw (Inner len text) = 0 < len
IsRaw Malformed = ⊥
IsRaw _ = Unit {0}

either : (P : Part → Type 0) (t : Bool) (x y : Part) → P x → P y → P (cond t x y)
either P true x y p q = p
either P false x y p q = q

-- ---- parts

decimal_forward : (bytes : List ℕ) → IsForward (decimal_escape bytes)
decimal_forward bytes =
    let n = min 3 (prefix_len is_digit bytes) in
    let value = digits_value 10 (take n bytes) in
    either IsForward (nat_lt value 256) (Inner (n + 1) (value ∷ [])) Malformed (omega arith) tt

hex_forward : (bytes : List ℕ) → IsForward (hex_escape bytes)
hex_forward bytes =
    either IsForward (nat_le 2 (prefix_len is_hex_digit bytes)) (Inner 4 (digits_value 16 (take 2 bytes) ∷ [])) Malformed (omega arith) tt

digits_forward : (bytes : List ℕ) → IsForward (code_digits bytes)
digits_forward bytes =
    let n = prefix_len is_hex_digit bytes in
    let value = digits_value 16 (take n bytes) in
    either IsForward (nat_le 1 n && nat_le n 8 && begins (λ b. nat_eq b 125) (drop n bytes) && nat_le value 0x10FFFF) (Inner (n + 4) (utf8 value)) Malformed (omega arith) tt

code_forward : (bytes : List ℕ) → IsForward (code_escape bytes)
code_forward bytes =
    either IsForward (begins (λ b. nat_eq b 123) bytes) (code_digits (drop 1 bytes)) Malformed (digits_forward (drop 1 bytes)) tt

escape_forward : (bytes : List ℕ) → IsForward (escape bytes)
escape_forward [] = tt
escape_forward (c ∷ cs) =
    let last = either IsForward (nat_eq c 13 && begins is_line_feed cs) (Inner 3 (10 ∷ [])) (Inner 2 (escaped c ∷ [])) (omega arith) (omega arith) in
    let blanks = either IsForward (nat_eq c 122) (Inner (2 + blanks_len cs) []) _ (omega arith) last in
    let code = either IsForward (nat_eq c 117) (code_escape cs) _ (code_forward cs) blanks in
    let hex = either IsForward (nat_eq c 120) (hex_escape cs) _ (hex_forward cs) code in
    either IsForward (is_digit c) (decimal_escape (c ∷ cs)) _ (decimal_forward (c ∷ cs)) hex

part_forward : (ends : ℕ → Bool) (bytes : List ℕ) → IsForward (part_at ends bytes)
part_forward ends [] = tt
part_forward ends (b ∷ bs) =
    let inner = either IsForward (nat_eq b 92) (escape bs) (Inner 1 (b ∷ [])) (escape_forward bs) (omega arith) in
    let line = either IsForward (nat_eq b 10) Unfinished _ tt inner in
    either IsForward (ends b) Closing _ tt line

raw_escape_forward : (bytes : List ℕ) → IsRaw (raw_escape bytes)
raw_escape_forward [] = tt
raw_escape_forward (c ∷ cs) =
    let last = either IsRaw (nat_eq c 13 && begins is_line_feed cs) (Inner 3 []) (Inner 2 []) (omega arith) (omega arith) in
    either IsRaw (nat_eq c 122) (Inner (2 + blanks_len cs) []) _ (omega arith) last

raw_part_raw : (ends : ℕ → Bool) (bytes : List ℕ) → IsRaw (raw_part_at ends bytes)
raw_part_raw ends [] = tt
raw_part_raw ends (b ∷ bs) =
    let inner = either IsRaw (nat_eq b 92) (raw_escape bs) (Inner 1 []) (raw_escape_forward bs) (omega arith) in
    let line = either IsRaw (nat_eq b 10) Unfinished _ tt inner in
    either IsRaw (ends b) Closing _ tt line

raw_forward : (x : Part) → IsRaw x → IsForward x
raw_forward (Inner len text) h = h
raw_forward Closing h = tt
raw_forward Malformed h = tt
raw_forward Unfinished h = tt

-- ---- spans in turn, up to what is no span

pub record Run (read : List ℕ → Part) (bytes : List ℕ) : Type 0 where
  pub spans : List Span
  pub rest : List ℕ
  pub turn : AreInTurn read bytes spans rest
  pub last : IsLast (read rest)

stop : (read : List ℕ → Part) (bytes : List ℕ) → IsLast (read bytes) → Run read bytes
stop read bytes h = record { spans = []; rest = bytes; turn = refl; last = h }

run : (read : List ℕ → Part) → ((bytes : List ℕ) → IsForward (read bytes)) → read [] ≡ Unfinished → (n : ℕ) (bytes : List ℕ) → length bytes ≤ n → Run read bytes
run read forward none n [] few = stop read [] (subst IsLast (sym none) tt)
run read forward none zero (b ∷ bs) few = absurd (omega arith)
run read forward none (suc n) (b ∷ bs) few =
    by (read (b ∷ bs)) refl (λ len some. run read forward none n (drop len (b ∷ bs)) (omega (arith, length-drop len (b ∷ bs))))
  where
    by : (x : Part) → read (b ∷ bs) ≡ x → ((len : ℕ) → 0 < len → Run read (drop len (b ∷ bs))) → Run read (b ∷ bs)
    by (Inner len text) is next =
        let more = next len (subst IsForward is (forward (b ∷ bs))) in
        record { spans = record { len = len; text = text } ∷ more.spans; rest = more.rest; turn = (is, more.turn); last = more.last }
    by Closing is next = stop read (b ∷ bs) (subst IsLast (sym is) tt)
    by Malformed is next = stop read (b ∷ bs) (subst IsLast (sym is) tt)
    by Unfinished is next = stop read (b ∷ bs) (subst IsLast (sym is) tt)

-- ---- bodies

module _ (ends : ℕ → Bool) (bytes : List ℕ) where
  front : Run (part_at ends) bytes
  front = run (part_at ends) (part_forward ends) refl (length bytes) bytes (omega arith)

  back : Run (raw_part_at ends) front.rest
  back = run (raw_part_at ends) (λ l. raw_forward (raw_part_at ends l) (raw_part_raw ends l)) refl (length front.rest) front.rest (omega arith)

  breaks : part_at ends front.rest ≡ Malformed → (last : Part) → raw_part_at ends back.rest ≡ last → Breaks ends bytes (spans_len front.spans) last
  breaks is last end_is = record {
    spans = front.spans;
    raw_spans = back.spans;
    broken = front.rest;
    rest = back.rest;
    turn = front.turn;
    malformed = is;
    offset_is = refl;
    raw_turn = back.turn;
    «end» = end_is;
  }

  broken : part_at ends front.rest ≡ Malformed → (x : Part) → raw_part_at ends back.rest ≡ x → IsLast x → IsRaw x → (body : Body) × HasBody ends bytes body
  broken is (Inner len text) e h k = absurd h
  broken is Malformed e h k = absurd k
  broken is Closing e h k = (Broken (spans_len front.spans), breaks is Closing e)
  broken is Unfinished e h k = (Unclosed, inr (spans_len front.spans, breaks is Unfinished e))

  ended : (x : Part) → part_at ends front.rest ≡ x → IsLast x → (body : Body) × HasBody ends bytes body
  ended (Inner len text) e h = absurd h
  ended Closing e h = (Closed (spans_text front.spans) (spans_len front.spans), record { spans = front.spans; rest = front.rest; turn = front.turn; «end» = e; text_is = refl; len_is = refl })
  ended Unfinished e h = (Unclosed, inl (record { spans = front.spans; rest = front.rest; turn = front.turn; «end» = e }))
  ended Malformed e h = broken e (raw_part_at ends back.rest) refl back.last (raw_part_raw ends back.rest)

  pub each_body : (body : Body) × HasBody ends bytes body
  each_body = ended (part_at ends front.rest) refl front.last
