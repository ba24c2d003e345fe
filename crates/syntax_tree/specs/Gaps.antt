-- Blanks, comments, and the brackets of long comments and long strings.
use Rattle.std.specs.Prelude.{ℕ, ◌+◌, nat_eq, Bool, false, ◌&&◌, List, [], ◌∷◌, drop, Option, Some, None, option_map, if◌then◌else◌}
use Rattle.std.specs.List.{prefix_len}
use Rattle.syntax_tree.specs.Bytes.{is_blank, is_no_line_feed, is_equals, begins}

-- how many blanks stand at the front
abbrev pub blanks_len : List ℕ → ℕ
blanks_len bytes = prefix_len is_blank bytes

-- how many bytes stand before the line's end
abbrev pub line_len : List ℕ → ℕ
line_len bytes = prefix_len is_no_line_feed bytes

-- The level of the bracket at the front: a bracket of level n is the byte `[` or `]`, n signs `=`, and the byte again.
-- It is n + 2 bytes long.
abbrev pub bracket_level : (byte : ℕ) → List ℕ → Option ℕ
bracket_level byte [] = None
bracket_level byte (b ∷ bs) =
    if nat_eq b byte && begins (λ c. nat_eq c byte) (drop (prefix_len is_equals bs) bs) then Some (prefix_len is_equals bs) else None

-- the level of a bracket that opens here
abbrev pub opening_level : List ℕ → Option ℕ
opening_level bytes = bracket_level 91 bytes

abbrev pub is_level : ℕ → Option ℕ → Bool
is_level level None = false
is_level level (Some n) = nat_eq n level

-- the first place at which a bracket of this level closes
abbrev pub closing_place : (level : ℕ) → List ℕ → Option ℕ
closing_place level [] = None
closing_place level (b ∷ bs) =
    if is_level level (bracket_level 93 (b ∷ bs)) then Some 0 else option_map (λ k. k + 1) (closing_place level bs)

-- two bytes that begin a comment
abbrev pub begins_comment : List ℕ → Bool
begins_comment [] = false
begins_comment (b ∷ bs) = nat_eq b 45 && begins (λ c. nat_eq c 45) bs
