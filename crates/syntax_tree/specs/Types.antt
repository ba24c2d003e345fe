-- The grammar of types, on the places of a token list:
--
--   type    = ["|" | "&"] part {("|" | "&") part}        part = atom {"?"}
--   atom    = "nil" | "true" | "false" | String | "..." part
--           | Name ["." Name] ["<" [item {"," item}] ">"] ["..."]
--           | "typeof" "(" balanced ")"
--           | "{" [field {("," | ";") field} ["," | ";"]] "}"
--           | [generics] "(" [item {"," item}] ")" ["->" type]
--   item    = [Name ":"] type
--   field   = "[" type "]" ":" type | Name ":" type | type
--   generics = "<" generic {"," generic} ">"             generic = Name ["..."] ["=" type]
--
-- `balanced` is any tokens whose brackets and interpolated pieces match.
--
-- `IsType ts n i j`: a type goes from place i to place j, and at most n of its brackets are open at once; so for the
-- other parts. What may follow is taken where it stands: a `?`, a bar, a `->` behind the parameters, a `.`, a `<` and a
-- `...` behind a name. `typeof` before a `(` opens the balanced form. A bracket is a `(`, a `[`, a `{`, or a `<` that
-- opens arguments or generics; between the parentheses of `typeof` a `<` is an operator.
use Rattle.std.specs.Prelude.{◌≡◌, ℕ, suc, ◌+◌, Bool, true, false, ◌&&◌, IsTrue, IsFalse, List, Option, Some, None}
use Rattle.byte_text.specs.declared.StrId.{StrId}
use Rattle.byte_text.specs.declared.fixed.TheConstants.StrId as fixed
use Rattle.syntax_tree.specs.declared.token.Token.{Token}
use Rattle.syntax_tree.specs.declared.token.TokenKind.{TokenKind}
use Rattle.syntax_tree.specs.declared.token.TokenKind.TheVariants as token
use Rattle.syntax_tree.specs.Places.{kind_at, Has, Lacks, is_name, is_named, Optional}

-- the number of the text `typeof` in every interner
abbrev pub typeof_name : StrId
typeof_name = fixed.TYPEOF

abbrev pub is_bar : Option TokenKind → Bool
is_bar (Some token.Pipe) = true
is_bar (Some token.Ampersand) = true
is_bar _ = false

abbrev pub is_separator : Option TokenKind → Bool
is_separator (Some token.Comma) = true
is_separator (Some token.Semicolon) = true
is_separator _ = false

-- "nil" | "true" | "false" | String
abbrev pub is_literal : Option TokenKind → Bool
is_literal (Some token.Nil) = true
is_literal (Some token.True) = true
is_literal (Some token.False) = true
is_literal (Some (token.Str x)) = true
is_literal _ = false

abbrev pub is_open_paren : Option TokenKind → Bool
is_open_paren (Some token.OpenParen) = true
is_open_paren _ = false

abbrev pub is_colon : Option TokenKind → Bool
is_colon (Some token.Colon) = true
is_colon _ = false

-- "typeof" "("
abbrev pub opens_typeof : List Token → ℕ → Bool
opens_typeof ts i = is_named typeof_name (kind_at ts i) && is_open_paren (kind_at ts (i + 1))

-- Name ":"
abbrev pub is_label : List Token → ℕ → Bool
is_label ts i = is_name (kind_at ts i) && is_colon (kind_at ts (i + 1))

-- the bracket that closes what a `(`, `[` or `{` opens
abbrev pub closer : Option TokenKind → Option TokenKind
closer (Some token.OpenParen) = Some token.CloseParen
closer (Some token.OpenBracket) = Some token.CloseBracket
closer (Some token.OpenBrace) = Some token.CloseBrace
closer _ = None

abbrev pub is_closer : Option TokenKind → Bool
is_closer (Some token.CloseParen) = true
is_closer (Some token.CloseBracket) = true
is_closer (Some token.CloseBrace) = true
is_closer _ = false

-- a token that is no bracket and no piece of an interpolated string with expressions
abbrev pub is_plain : Option TokenKind → Bool
is_plain None = false
is_plain (Some token.OpenParen) = false
is_plain (Some token.OpenBracket) = false
is_plain (Some token.OpenBrace) = false
is_plain (Some token.CloseParen) = false
is_plain (Some token.CloseBracket) = false
is_plain (Some token.CloseBrace) = false
is_plain (Some (token.InterpBegin x)) = false
is_plain (Some (token.InterpMid x)) = false
is_plain (Some (token.InterpEnd x)) = false
is_plain (Some _) = true

-- {"?"}
pub data IsMarks (ts : List Token) : (i j : ℕ) → Type 0 where
  no_mark : (i : ℕ) → Lacks ts i token.Question → IsMarks ts i i
  mark : (i j : ℕ) → Has ts i token.Question → IsMarks ts (i + 1) j → IsMarks ts i j

-- ["." Name]
pub data IsMember (ts : List Token) : (i j : ℕ) → Type 0 where
  no_member : (i : ℕ) → Lacks ts i token.Dot → IsMember ts i i
  member : (i : ℕ) → Has ts i token.Dot → IsTrue (is_name (kind_at ts (i + 1))) → IsMember ts i (i + 2)

-- balanced, up to the bracket that closes it, with `strings` interpolated strings that are not at their end yet
pub data IsBalanced (ts : List Token) : (n strings i j : ℕ) → Type 0 where
  balanced : (n i : ℕ) → IsTrue (is_closer (kind_at ts i)) → IsBalanced ts n 0 i i
  plain : (n strings i j : ℕ) → IsTrue (is_plain (kind_at ts i)) → IsBalanced ts n strings (i + 1) j → IsBalanced ts n strings i j
  interp_begin : (n strings i j : ℕ) (x : StrId) → Has ts i (token.InterpBegin x) → IsBalanced ts n (suc strings) (i + 1) j → IsBalanced ts n strings i j
  interp_mid : (n strings i j : ℕ) (x : StrId) → Has ts i (token.InterpMid x) → IsBalanced ts n (suc strings) (i + 1) j → IsBalanced ts n (suc strings) i j
  interp_end : (n strings i j : ℕ) (x : StrId) → Has ts i (token.InterpEnd x) → IsBalanced ts n strings (i + 1) j → IsBalanced ts n (suc strings) i j
  bracket : (n strings i j k : ℕ) (close : TokenKind) → closer (kind_at ts i) ≡ Some close → IsBalanced ts n 0 (i + 1) j → Has ts j close → IsBalanced ts (suc n) strings (j + 1) k → IsBalanced ts (suc n) strings i k

mutual
  -- type = ["|" | "&"] part {("|" | "&") part}
  pub data IsType (ts : List Token) : (n i j : ℕ) → Type 0 where
    plain_type : (n i j : ℕ) → IsFalse (is_bar (kind_at ts i)) → IsParts ts n i j → IsType ts n i j
    barred_type : (n i j : ℕ) → IsTrue (is_bar (kind_at ts i)) → IsParts ts n (i + 1) j → IsType ts n i j

  pub data IsParts (ts : List Token) : (n i j : ℕ) → Type 0 where
    last_part : (n i j : ℕ) → IsPart ts n i j → IsFalse (is_bar (kind_at ts j)) → IsParts ts n i j
    more_parts : (n i j k : ℕ) → IsPart ts n i j → IsTrue (is_bar (kind_at ts j)) → IsParts ts n (j + 1) k → IsParts ts n i k

  -- part = atom {"?"}
  pub data IsPart (ts : List Token) : (n i j : ℕ) → Type 0 where
    part : (n i j k : ℕ) → IsAtom ts n i j → IsMarks ts j k → IsPart ts n i k

  pub data IsAtom (ts : List Token) : (n i j : ℕ) → Type 0 where
    literal : (n i : ℕ) → IsTrue (is_literal (kind_at ts i)) → IsAtom ts n i (i + 1)
    -- "..." part
    variadic : (n i j : ℕ) → Has ts i token.TripleDot → IsPart ts n (i + 1) j → IsAtom ts n i j
    -- Name ["." Name] ["<" [item {"," item}] ">"] ["..."]
    named : (n i j k l : ℕ) → IsTrue (is_name (kind_at ts i)) → IsFalse (opens_typeof ts i) → IsMember ts (i + 1) j → IsArguments ts n j k → Optional ts token.TripleDot k l → IsAtom ts n i l
    -- "typeof" "(" balanced ")"
    type_of : (n i j : ℕ) → IsTrue (opens_typeof ts i) → IsBalanced ts n 0 (i + 2) j → Has ts j token.CloseParen → IsAtom ts (suc n) i (j + 1)
    -- "{" [field {("," | ";") field} ["," | ";"]] "}"
    table : (n i j : ℕ) → Has ts i token.OpenBrace → IsFields ts n (i + 1) j → Has ts j token.CloseBrace → IsAtom ts (suc n) i (j + 1)
    -- [generics] "(" [item {"," item}] ")" ["->" type]
    function : (n i j k l : ℕ) → IsGenerics ts n i j → Has ts j token.OpenParen → IsItems ts token.CloseParen n (j + 1) k → Has ts k token.CloseParen → IsResult ts (suc n) (k + 1) l → IsAtom ts (suc n) i l

  -- ["<" [item {"," item}] ">"]
  pub data IsArguments (ts : List Token) : (n i j : ℕ) → Type 0 where
    no_arguments : (n i : ℕ) → Lacks ts i token.Less → IsArguments ts n i i
    arguments : (n i j : ℕ) → Has ts i token.Less → IsItems ts token.Greater n (i + 1) j → Has ts j token.Greater → IsArguments ts (suc n) i (j + 1)

  -- ["->" type]
  pub data IsResult (ts : List Token) : (n i j : ℕ) → Type 0 where
    no_result : (n i : ℕ) → Lacks ts i token.Arrow → IsResult ts n i i
    result : (n i j : ℕ) → Has ts i token.Arrow → IsType ts n (i + 1) j → IsResult ts n i j

  -- [item {"," item}], up to the bracket that closes it
  pub data IsItems (ts : List Token) : (close : TokenKind) (n i j : ℕ) → Type 0 where
    no_items : (close : TokenKind) (n i : ℕ) → Has ts i close → IsItems ts close n i i
    items : (close : TokenKind) (n i j : ℕ) → Lacks ts i close → IsItemList ts n i j → IsItems ts close n i j

  -- item {"," item}
  pub data IsItemList (ts : List Token) : (n i j : ℕ) → Type 0 where
    last_item : (n i j : ℕ) → IsItem ts n i j → Lacks ts j token.Comma → IsItemList ts n i j
    more_items : (n i j k : ℕ) → IsItem ts n i j → Has ts j token.Comma → IsItemList ts n (j + 1) k → IsItemList ts n i k

  -- item = [Name ":"] type
  pub data IsItem (ts : List Token) : (n i j : ℕ) → Type 0 where
    plain_item : (n i j : ℕ) → IsFalse (is_label ts i) → IsType ts n i j → IsItem ts n i j
    labelled_item : (n i j : ℕ) → IsTrue (is_label ts i) → IsType ts n (i + 2) j → IsItem ts n i j

  -- [field {("," | ";") field} ["," | ";"]], up to the brace that closes it
  pub data IsFields (ts : List Token) : (n i j : ℕ) → Type 0 where
    no_fields : (n i : ℕ) → Has ts i token.CloseBrace → IsFields ts n i i
    last_field : (n i j : ℕ) → Lacks ts i token.CloseBrace → IsField ts n i j → IsFalse (is_separator (kind_at ts j)) → IsFields ts n i j
    more_fields : (n i j k : ℕ) → Lacks ts i token.CloseBrace → IsField ts n i j → IsTrue (is_separator (kind_at ts j)) → IsFields ts n (j + 1) k → IsFields ts n i k

  -- field = "[" type "]" ":" type | Name ":" type | type
  pub data IsField (ts : List Token) : (n i j : ℕ) → Type 0 where
    keyed_field : (n i j k : ℕ) → Has ts i token.OpenBracket → IsType ts n (i + 1) j → Has ts j token.CloseBracket → Has ts (j + 1) token.Colon → IsType ts (suc n) (j + 2) k → IsField ts (suc n) i k
    item_field : (n i j : ℕ) → Lacks ts i token.OpenBracket → IsItem ts n i j → IsField ts n i j

  -- ["<" generic {"," generic} ">"]
  pub data IsGenerics (ts : List Token) : (n i j : ℕ) → Type 0 where
    no_generics : (n i : ℕ) → Lacks ts i token.Less → IsGenerics ts n i i
    generics : (n i j : ℕ) → Has ts i token.Less → IsGenericList ts n (i + 1) j → Has ts j token.Greater → IsGenerics ts n i (j + 1)

  pub data IsGenericList (ts : List Token) : (n i j : ℕ) → Type 0 where
    last_generic : (n i j : ℕ) → IsGeneric ts n i j → Lacks ts j token.Comma → IsGenericList ts n i j
    more_generics : (n i j k : ℕ) → IsGeneric ts n i j → Has ts j token.Comma → IsGenericList ts n (j + 1) k → IsGenericList ts n i k

  -- generic = Name ["..."] ["=" type]
  pub data IsGeneric (ts : List Token) : (n i j : ℕ) → Type 0 where
    generic : (n i j k : ℕ) → IsTrue (is_name (kind_at ts i)) → Optional ts token.TripleDot (i + 1) j → IsDefault ts n j k → IsGeneric ts n i k

  -- ["=" type]
  pub data IsDefault (ts : List Token) : (n i j : ℕ) → Type 0 where
    no_default : (n i : ℕ) → Lacks ts i token.Equal → IsDefault ts n i i
    default : (n i j : ℕ) → Has ts i token.Equal → IsType ts n (i + 1) j → IsDefault ts n i j
