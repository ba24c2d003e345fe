-- What stands at the places of a token list. Places count from 0, and behind the last token nothing stands.
use Rattle.std.specs.Prelude.{◌≡◌, ◌≢◌, ℕ, ◌+◌, ◌-◌, Bool, true, false, nat_eq, List, length, take, Option, Some, option_map, unwrap_or, slice_get}
use Rattle.byte_text.specs.declared.StrId.{StrId}
use Rattle.syntax_tree.specs.declared.token.Token.{Token}
use Rattle.syntax_tree.specs.declared.token.TokenKind.{TokenKind}
use Rattle.syntax_tree.specs.declared.token.TokenKind.TheVariants.{Name}

abbrev pub kind_of : Token → TokenKind
kind_of t = t.kind

abbrev pub kind_at : List Token → ℕ → Option TokenKind
kind_at ts i = option_map kind_of (slice_get ts i)

-- a token of this kind stands there
abbrev pub Has : List Token → ℕ → TokenKind → Type 0
Has ts i kind = kind_at ts i ≡ Some kind

-- no token of this kind stands there
abbrev pub Lacks : List Token → ℕ → TokenKind → Type 0
Lacks ts i kind = kind_at ts i ≢ Some kind

abbrev pub is_name : Option TokenKind → Bool
is_name (Some (Name x)) = true
is_name _ = false

-- the name with this number
abbrev pub is_named : StrId → Option TokenKind → Bool
is_named id (Some (Name x)) = nat_eq x.0 id.0
is_named id _ = false

-- a token that may stand there is taken where it does: the place from which on it may stand, and that behind it
pub data Optional (ts : List Token) (kind : TokenKind) : ℕ → ℕ → Type 0 where
  taken : (i : ℕ) → Has ts i kind → Optional ts kind i (i + 1)
  absent : (i : ℕ) → Lacks ts i kind → Optional ts kind i i

-- the offset of a token
abbrev pub offset_at : List Token → ℕ → Option ℕ
offset_at ts k = option_map (λ t. t.at) (slice_get ts k)

-- where the last token ends, and 0 without one
abbrev pub end_of : List Token → ℕ
end_of ts = unwrap_or (option_map (λ t. t.end) (slice_get ts (length ts - 1))) 0

-- the second list begins with the first k tokens of the first
abbrev pub BeginsAs : (ts : List Token) → (k : ℕ) → (us : List Token) → Type 0
BeginsAs ts k us = take k us ≡ take k ts
