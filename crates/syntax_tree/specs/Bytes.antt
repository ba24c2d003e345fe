-- Kinds of bytes.
use Rattle.std.specs.Prelude.{ℕ, Bool, false, nat_eq, nat_le, not, ◌&&◌, ◌||◌, List, [], ◌∷◌, count_by}

-- space, tab, LF, VT, FF and CR
abbrev pub is_blank : ℕ → Bool
is_blank b = nat_eq b 32 || (nat_le 9 b && nat_le b 13)

-- a line ends at LF
abbrev pub is_line_feed : ℕ → Bool
is_line_feed b = nat_eq b 10

abbrev pub is_no_line_feed : ℕ → Bool
is_no_line_feed b = not (nat_eq b 10)

abbrev pub is_digit : ℕ → Bool
is_digit b = nat_le 48 b && nat_le b 57

-- a hexadecimal digit of either case
abbrev pub is_hex_digit : ℕ → Bool
is_hex_digit b = is_digit b || (nat_le 65 b && nat_le b 70) || (nat_le 97 b && nat_le b 102)

-- a letter or `_`
abbrev pub is_name_start : ℕ → Bool
is_name_start b = (nat_le 65 b && nat_le b 90) || (nat_le 97 b && nat_le b 122) || nat_eq b 95

-- a letter, a digit or `_`
abbrev pub is_name_byte : ℕ → Bool
is_name_byte b = is_name_start b || is_digit b

-- what a number takes first: a digit, a point or `_`
abbrev pub is_number_byte : ℕ → Bool
is_number_byte b = is_digit b || nat_eq b 46 || nat_eq b 95

abbrev pub is_equals : ℕ → Bool
is_equals b = nat_eq b 61

-- whether there is a first byte, and it passes a test
abbrev pub begins : (ℕ → Bool) → List ℕ → Bool
begins p [] = false
begins p (b ∷ bs) = p b

-- how many lines end in these bytes
abbrev pub line_feeds : List ℕ → ℕ
line_feeds bytes = count_by is_line_feed bytes
