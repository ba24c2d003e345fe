-- The turns at the targets of an assignment, and at a call that is a statement.
use Rattle.std.proofs.Common.{◌≡◌, ◌≢◌, ◌≤◌, ◌<◌, ◌+◌, ℕ, true, true≢false, List, ◌∷◌, refl, sym, ap, ◌∙◌, arith, Option, Some, None}
use Rattle.byte_text.specs.declared.StrId.{StrId}
use Rattle.syntax_tree.specs.declared.token.Token.{Token}
use Rattle.syntax_tree.specs.declared.token.TokenKind.{TokenKind}
use Rattle.syntax_tree.specs.declared.token.TokenKind.TheVariants as token
use Rattle.syntax_tree.specs.declared.tree.BinOp.{BinOp}
use Rattle.syntax_tree.specs.Grammar.{PrefixEnd, in_target, in_call, in_paren}
use Rattle.syntax_tree.specs.Operators.{compound_operator}
use Rattle.syntax_tree.specs.Places.{kind_at, Has, Lacks}
use Rattle.parse_steps.specs.declared.classes.Suffix.TheVariants as suffix_class
use Rattle.type_skip.specs.declared.words.Word.TheVariants as word
use Rattle.parse_steps.specs.Classes.{suffix, name_of}
use Rattle.parse_steps.specs.Items as item
use Rattle.parse_steps.specs.Items.{Item, PrefixUse, in_expression, first_target, later_target, depth, expression}
use Rattle.parse_steps.specs.Steps.{most, InTime, Leads}
use Rattle.parse_steps.specs.Turns.{turn, stops, takes, prefix_turn, suffix_turn, name_turn, next_reach}
use Rattle.parse_steps.proofs.ForwardAssignments.{is_target}
use Rattle.expression_parser.specs.declared.fault.Fault.TheVariants as fault
use Rattle.expression_parser.specs.Reading.{Fails}
use Rattle.expression_parser.proofs.Leading.{staying, taking, stuck_here, deep_here}
use Rattle.expression_parser.proofs.SuffixTurns.{in_time}
use Rattle.expression_parser.proofs.WordTurns.{no_word, no_name}

-- ---- behind a prefix

-- a token that is no suffix opens no arguments
pub no_suffix_in_time : (ts : List Token) (i : ℕ) → suffix (kind_at ts i) ≡ suffix_class.Nothing → InTime ts i
no_suffix_in_time ts i none p place late =
    let clash : suffix_class.Call ≡ suffix_class.Nothing = ap suffix (sym late.opens ∙ ap (kind_at ts) (sym place)) ∙ none in
    absurd cc

-- what is behind a prefix goes on
pub behind_prefix : (ts : List Token) (c : PrefixEnd) (u : PrefixUse) (i v : ℕ) (k : List Item) → suffix (kind_at ts i) ≡ suffix_class.Nothing → turn (kind_at ts i) v (item.suffixes c u) k ≡ prefix_turn u c (kind_at ts i) v k
behind_prefix ts c u i v k none = ap (λ s. suffix_turn s c u (kind_at ts i) v k) none

-- a call is a whole statement
pub behind_call : (ts : List Token) (i v : ℕ) (k : List Item) → suffix (kind_at ts i) ≡ suffix_class.Nothing → Leads ts i v (item.suffixes in_call first_target ∷ k) i v k
behind_call ts i v k none = staying (behind_prefix ts in_call first_target i v k none)

-- a parenthesis is none
pub only_paren : (ts : List Token) (i v : ℕ) (k : List Item) → suffix (kind_at ts i) ≡ suffix_class.Nothing → Fails ts i v (item.suffixes in_paren first_target ∷ k) (fault.Unexpected i)
only_paren ts i v k none = stuck_here (behind_prefix ts in_paren first_target i v k none) (λ clash. absurd cc)

-- neither a call nor a parenthesis is a further target
pub no_later_call : (ts : List Token) (i v : ℕ) (k : List Item) → suffix (kind_at ts i) ≡ suffix_class.Nothing → Fails ts i v (item.suffixes in_call later_target ∷ k) (fault.Unexpected i)
no_later_call ts i v k none = stuck_here (behind_prefix ts in_call later_target i v k none) (λ clash. absurd cc)

pub no_later_paren : (ts : List Token) (i v : ℕ) (k : List Item) → suffix (kind_at ts i) ≡ suffix_class.Nothing → Fails ts i v (item.suffixes in_paren later_target ∷ k) (fault.Unexpected i)
no_later_paren ts i v k none = stuck_here (behind_prefix ts in_paren later_target i v k none) (λ clash. absurd cc)

-- ---- behind a target

equal_turn : (u : PrefixUse) (v : ℕ) (k : List Item) → is_target u ≡ true → turn (Some token.Equal) v (item.suffixes in_target u) k ≡ takes 0 v (expression ∷ item.list_more ∷ k)
equal_turn first_target v k is = refl
equal_turn later_target v k is = refl
equal_turn in_expression v k is = absurd (true≢false (sym is))

comma_turn : (u : PrefixUse) (v : ℕ) (k : List Item) → is_target u ≡ true → turn (Some token.Comma) v (item.suffixes in_target u) k ≡ takes 0 v (item.target ∷ k)
comma_turn first_target v k is = refl
comma_turn later_target v k is = refl
comma_turn in_expression v k is = absurd (true≢false (sym is))

compound_turn : (t : Option TokenKind) (op : BinOp) (v : ℕ) (k : List Item) → compound_operator t ≡ Some op → turn t v (item.suffixes in_target first_target) k ≡ takes 0 v (expression ∷ k)
compound_turn (Some token.PlusEqual) op v k stands = refl
compound_turn (Some token.MinusEqual) op v k stands = refl
compound_turn (Some token.StarEqual) op v k stands = refl
compound_turn (Some token.SlashEqual) op v k stands = refl
compound_turn (Some token.DoubleSlashEqual) op v k stands = refl
compound_turn (Some token.PercentEqual) op v k stands = refl
compound_turn (Some token.CaretEqual) op v k stands = refl
compound_turn (Some token.DoubleDotEqual) op v k stands = refl
compound_turn _ op v k stands = absurd cc

-- to the value of a compound assignment
pub to_compound : (ts : List Token) (op : BinOp) (i v : ℕ) (k : List Item) → suffix (kind_at ts i) ≡ suffix_class.Nothing → compound_operator (kind_at ts i) ≡ Some op
    → Leads ts i v (item.suffixes in_target first_target ∷ k) (i + 1) v (expression ∷ k)
to_compound ts op i v k none stands = taking (compound_turn (kind_at ts i) op v k stands) (omega arith) (no_suffix_in_time ts i none)

-- to the values
pub to_values : (ts : List Token) (u : PrefixUse) (i v : ℕ) (k : List Item) → is_target u ≡ true → Has ts i token.Equal → Leads ts i v (item.suffixes in_target u ∷ k) (i + 1) v (expression ∷ item.list_more ∷ k)
to_values ts u i v k is stands = taking (ap (λ t. turn t v (item.suffixes in_target u) k) stands ∙ equal_turn u v k is) (omega arith) (in_time ts i token.Equal stands (λ e. omega (arith, e)))

-- to a further target
pub to_target : (ts : List Token) (u : PrefixUse) (i v : ℕ) (k : List Item) → is_target u ≡ true → Has ts i token.Comma → Leads ts i v (item.suffixes in_target u ∷ k) (i + 1) v (item.target ∷ k)
to_target ts u i v k is stands = taking (ap (λ t. turn t v (item.suffixes in_target u) k) stands ∙ comma_turn u v k is) (omega arith) (in_time ts i token.Comma stands (λ e. omega (arith, e)))

-- nothing else goes on behind the first target
pub first_stops : (t : Option TokenKind) (v : ℕ) (k : List Item) → suffix t ≡ suffix_class.Nothing → compound_operator t ≡ None → t ≢ Some token.Equal → t ≢ Some token.Comma → turn t v (item.suffixes in_target first_target) k ≡ stops
first_stops (Some token.Dot) v k none plain e d = absurd cc
first_stops (Some token.OpenBracket) v k none plain e d = absurd cc
first_stops (Some token.Colon) v k none plain e d = absurd cc
first_stops (Some token.OpenParen) v k none plain e d = absurd cc
first_stops (Some token.OpenBrace) v k none plain e d = absurd cc
first_stops (Some (token.Str x)) v k none plain e d = absurd cc
first_stops (Some token.PlusEqual) v k none plain e d = absurd cc
first_stops (Some token.MinusEqual) v k none plain e d = absurd cc
first_stops (Some token.StarEqual) v k none plain e d = absurd cc
first_stops (Some token.SlashEqual) v k none plain e d = absurd cc
first_stops (Some token.DoubleSlashEqual) v k none plain e d = absurd cc
first_stops (Some token.PercentEqual) v k none plain e d = absurd cc
first_stops (Some token.CaretEqual) v k none plain e d = absurd cc
first_stops (Some token.DoubleDotEqual) v k none plain e d = absurd cc
first_stops (Some token.Equal) v k none plain e d = absurd (e refl)
first_stops (Some token.Comma) v k none plain e d = absurd (d refl)
first_stops _ v k none plain e d = refl

-- nor behind a further one
pub later_stops : (t : Option TokenKind) (v : ℕ) (k : List Item) → suffix t ≡ suffix_class.Nothing → t ≢ Some token.Equal → t ≢ Some token.Comma → turn t v (item.suffixes in_target later_target) k ≡ stops
later_stops (Some token.Dot) v k none e d = absurd cc
later_stops (Some token.OpenBracket) v k none e d = absurd cc
later_stops (Some token.Colon) v k none e d = absurd cc
later_stops (Some token.OpenParen) v k none e d = absurd cc
later_stops (Some token.OpenBrace) v k none e d = absurd cc
later_stops (Some (token.Str x)) v k none e d = absurd cc
later_stops (Some token.Equal) v k none e d = absurd (e refl)
later_stops (Some token.Comma) v k none e d = absurd (d refl)
later_stops _ v k none e d = refl

-- ---- the beginning of a further target

pub to_parenthesis : (ts : List Token) (i v room : ℕ) (k : List Item) → Has ts i token.OpenParen → 0 < room → depth k + room ≡ most
    → Leads ts i v (item.target ∷ k) (i + 1) 0 (expression ∷ item.expects word.CloseParen ∷ item.wrap ∷ item.suffixes in_paren later_target ∷ item.greater v ∷ k)
to_parenthesis ts i v room k stands less deep = taking (ap (λ t. turn t v item.target k) stands) (omega (arith, less, deep)) tt

pub deep_parenthesis : (ts : List Token) (i v room : ℕ) (k : List Item) → Has ts i token.OpenParen → room ≤ 0 → depth k + room ≡ most → Fails ts i v (item.target ∷ k) (fault.TooDeep i)
deep_parenthesis ts i v room k stands le deep = deep_here (ap (λ t. turn t v item.target k) stands) (omega (arith, le, deep))

pub to_target_name : (ts : List Token) (x : StrId) (i v : ℕ) (k : List Item) → Has ts i (token.Name x) → Leads ts i v (item.target ∷ k) (i + 1) 0 (item.suffixes in_target later_target ∷ item.greater v ∷ k)
to_target_name ts x i v k stands = taking (ap (λ t. turn t v item.target k) stands) (omega arith) tt

pub no_target : (ts : List Token) (i v : ℕ) (k : List Item) → Lacks ts i token.OpenParen → name_of (kind_at ts i) ≡ None → Fails ts i v (item.target ∷ k) (fault.Unexpected i)
no_target ts i v k absent none =
    let named = takes 0 0 (item.suffixes in_target later_target ∷ item.greater v ∷ k) in
    let paren = takes (next_reach 0 k) 0 (expression ∷ item.expects word.CloseParen ∷ item.wrap ∷ item.suffixes in_paren later_target ∷ item.greater v ∷ k) in
    stuck_here (no_word ts i word.OpenParen paren (name_turn (name_of (kind_at ts i)) named stops) absent ∙ no_name ts i named stops none) (λ clash. absurd cc)

-- ---- a statement that begins with a parenthesis

pub to_paren_stat : (ts : List Token) (i v room : ℕ) (k : List Item) → Has ts i token.OpenParen → 0 < room → depth k + room ≡ most
    → Leads ts i v (item.block ∷ k) (i + 1) 0 (expression ∷ item.expects word.CloseParen ∷ item.wrap ∷ item.suffixes in_paren first_target ∷ item.greater v ∷ item.stat_end ∷ k)
to_paren_stat ts i v room k stands less deep = taking (ap (λ t. turn t v item.block k) stands) (omega (arith, less, deep)) tt

pub deep_paren_stat : (ts : List Token) (i v room : ℕ) (k : List Item) → Has ts i token.OpenParen → room ≤ 0 → depth k + room ≡ most → Fails ts i v (item.block ∷ k) (fault.TooDeep i)
deep_paren_stat ts i v room k stands le deep = deep_here (ap (λ t. turn t v item.block k) stands) (omega (arith, le, deep))
