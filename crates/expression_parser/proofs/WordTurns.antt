-- The turns at items that ask for one word or name, by what stands at a place.
use Rattle.std.proofs.Common.{◌≡◌, ◌+◌, ℕ, Bool, List, ◌∷◌, ap, arith, Option, Some, None, if◌then◌else◌}
use Rattle.byte_text.specs.declared.StrId.{StrId}
use Rattle.syntax_tree.specs.declared.token.Token.{Token}
use Rattle.syntax_tree.specs.declared.token.TokenKind.{TokenKind}
use Rattle.syntax_tree.specs.declared.token.TokenKind.TheVariants as token
use Rattle.syntax_tree.specs.Places.{kind_at, Has, Lacks}
use Rattle.syntax_tree.specs.Types.{IsType}
use Rattle.type_skip.specs.Reading as types
use Rattle.type_skip.specs.declared.words.Word.{Word}
use Rattle.type_skip.specs.declared.words.Word.TheVariants as word
use Rattle.parse_steps.specs.Classes.{name_of}
use Rattle.parse_steps.specs.Items as item
use Rattle.parse_steps.specs.Items.{Item, depth, expression}
use Rattle.parse_steps.specs.Steps.{most, Leads, here, no_type, deep_type}
use Rattle.parse_steps.specs.Turns.{Turn, stops, stays, takes, word_or, name_turn}
use Rattle.type_skip.specs.Words.{token_of}
use Rattle.type_skip.proofs.WordTests.{stands_there, stands_not}
use Rattle.expression_parser.specs.declared.fault.Fault.TheVariants as fault
use Rattle.expression_parser.specs.Reading.{Fails}
use Rattle.expression_parser.proofs.Leading.{staying, taking, stuck_here}

-- where a word stands, a test for it goes one way; else the other
pub at_word : (ts : List Token) (i : ℕ) (w : Word) (a b : Turn) → Has ts i (token_of w) → word_or w (kind_at ts i) a b ≡ a
at_word ts i w a b there = ap (λ (t : Bool). if t then a else b) (stands_there w (kind_at ts i) there)

pub no_word : (ts : List Token) (i : ℕ) (w : Word) (a b : Turn) → Lacks ts i (token_of w) → word_or w (kind_at ts i) a b ≡ b
no_word ts i w a b absent = ap (λ (t : Bool). if t then a else b) (stands_not w (kind_at ts i) absent)

-- where a name stands, and where none stands
pub at_name : (ts : List Token) (i : ℕ) (x : StrId) (a b : Turn) → name_of (kind_at ts i) ≡ Some x → name_turn (name_of (kind_at ts i)) a b ≡ a
at_name ts i x a b e = ap (λ (o : Option StrId). name_turn o a b) e

pub no_name : (ts : List Token) (i : ℕ) (a b : Turn) → name_of (kind_at ts i) ≡ None → name_turn (name_of (kind_at ts i)) a b ≡ b
no_name ts i a b e = ap (λ (o : Option StrId). name_turn o a b) e

-- this word, and nothing else
pub the_word : (ts : List Token) (w : Word) (i v : ℕ) (k : List Item) → Has ts i (token_of w) → Leads ts i v (item.expects w ∷ k) (i + 1) v k
the_word ts w i v k there = taking (at_word ts i w (takes 0 v k) stops there) (omega arith) tt

pub not_the_word : (ts : List Token) (w : Word) (i v : ℕ) (k : List Item) → Lacks ts i (token_of w) → Fails ts i v (item.expects w ∷ k) (fault.Unexpected i)
not_the_word ts w i v k absent = stuck_here (no_word ts i w (takes 0 v k) stops absent) (λ clash. absurd cc)

-- a name
pub has_name : (o : Option TokenKind) (x : StrId) → name_of o ≡ Some x → o ≡ Some (token.Name x)
has_name (Some (token.Name y)) x e = cc
has_name _ x e = absurd cc

pub the_name : (ts : List Token) (x : StrId) (i v : ℕ) (k : List Item) → name_of (kind_at ts i) ≡ Some x → Leads ts i v (item.a_name ∷ k) (i + 1) v k
the_name ts x i v k e = taking (at_name ts i x (takes 0 v k) stops e) (omega arith) tt

pub not_a_name : (ts : List Token) (i v : ℕ) (k : List Item) → name_of (kind_at ts i) ≡ None → Fails ts i v (item.a_name ∷ k) (fault.Unexpected i)
not_a_name ts i v k e = stuck_here (no_name ts i (takes 0 v k) stops e) (λ clash. absurd cc)

-- expressions of a list
pub one_more : (ts : List Token) (i v : ℕ) (k : List Item) → Has ts i token.Comma → Leads ts i v (item.list_more ∷ k) (i + 1) v (expression ∷ item.list_more ∷ k)
one_more ts i v k there = taking (at_word ts i word.Comma (takes 0 v (expression ∷ item.list_more ∷ k)) (stays v k) there) (omega arith) tt

pub no_more : (ts : List Token) (i v : ℕ) (k : List Item) → Lacks ts i token.Comma → Leads ts i v (item.list_more ∷ k) i v k
no_more ts i v k absent = staying (no_word ts i word.Comma (takes 0 v (expression ∷ item.list_more ∷ k)) (stays v k) absent)

-- a type that cannot be read
pub stuck_in_type : (ts : List Token) (i v p : ℕ) (k : List Item) → types.IsStuck IsType ts most i p → Fails ts i v (item.a_type ∷ k) (fault.Unexpected p)
stuck_in_type ts i v p k stuck = record { at = i; nest = v; todo = item.a_type ∷ k; run = here _ _ _; ends = no_type _ _ _ _ stuck }

pub deep_in_type : (ts : List Token) (i v p : ℕ) (k : List Item) → types.IsDeep IsType ts most i p → Fails ts i v (item.a_type ∷ k) (fault.TooDeep p)
deep_in_type ts i v p k deep = record { at = i; nest = v; todo = item.a_type ∷ k; run = here _ _ _; ends = deep_type _ _ _ _ deep }
