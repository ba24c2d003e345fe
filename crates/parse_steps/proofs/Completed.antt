-- Behind a sound stack its shortest text leads to the end.
use Rattle.std.proofs.Common.{◌≡◌, ℕ, suc, ◌+◌, max, Bool, false, if◌then◌else◌, IsTrue, List, ◌∷◌, Option, Some, None, refl, sym, ap, ◌∙◌, true≢false}
use Rattle.byte_text.specs.declared.StrId.{StrId}
use Rattle.syntax_tree.specs.declared.token.TokenKind.{TokenKind}
use Rattle.syntax_tree.specs.declared.token.TokenKind.TheVariants as token
use Rattle.syntax_tree.specs.declared.tree.BinOp.{BinOp}
use Rattle.syntax_tree.specs.Grammar.{PrefixEnd, in_target}
use Rattle.syntax_tree.specs.Operators.{operator}
use Rattle.syntax_tree.specs.Places.{kind_at, Has}
use Rattle.syntax_tree.specs.Types as types
use Rattle.syntax_tree.specs.Types.{is_bar, is_literal, IsType}
use Rattle.syntax_tree.specs.Words.{ends_block}
use Rattle.parse_steps.specs.declared.levels.Level.{Level}
use Rattle.parse_steps.specs.declared.levels.Level.TheVariants as levels
use Rattle.parse_steps.specs.declared.levels.Rank.{Rank}
use Rattle.parse_steps.specs.declared.levels.Rank.TheVariants as rank
use Rattle.type_skip.specs.declared.words.Word.{Word}
use Rattle.type_skip.specs.declared.words.Word.TheVariants as word
use Rattle.parse_steps.specs.Items.{Item, PrefixUse, in_expression, first_target, later_target, climb}
use Rattle.parse_steps.specs.Items as item
use Rattle.parse_steps.specs.Levels.{rank_of}
use Rattle.parse_steps.specs.Turns.{turn, stops, stays, takes, operations_turn, ending_turn}
use Rattle.type_skip.specs.Words.{token_of}
use Rattle.parse_steps.proofs.Accepting.{Text, Accepts, stay, take, pass}
use Rattle.parse_steps.proofs.Completing.{closing, closing_list, behind_type, no_member, no_generics, fits, list_closes}
use Rattle.type_skip.proofs.WordTests.{is_itself}

-- turns lead to the end
pub record Accepting (s : Text) (i v : ℕ) (k : List Item) : Type 0 where
  pub turns : ℕ
  pub run : Accepts s turns i v k false

-- whatever was read last
abbrev pub Goes : Text → ℕ → List Item → Type 0
Goes s i k = (v : ℕ) → Accepting s i v k

pub stays_by : {s : Text} {i v : ℕ} {x : Item} {k : List Item} (t : Option TokenKind) (u : ℕ) (more : List Item) → kind_at s.tokens i ≡ t → turn t v x k ≡ stays u more → Accepting s i u more → Accepting s i v (x ∷ k)
stays_by {s = s} {i = i} {v = v} {x = x} {k = k} t u more h e a = record { turns = suc a.turns; run = stay a.turns i v u x k more false (ap (λ (o : Option TokenKind). turn o v x k) h ∙ e) a.run }

pub takes_by : {s : Text} {i v : ℕ} {x : Item} {k : List Item} (t : Option TokenKind) (reach u : ℕ) (more : List Item) → kind_at s.tokens i ≡ t → turn t v x k ≡ takes reach u more → Accepting s (i + 1) u more → Accepting s i v (x ∷ k)
takes_by {s = s} {i = i} {v = v} {x = x} {k = k} t reach u more h e a = record { turns = suc a.turns; run = take a.turns i v u reach x k more false false (ap (λ (o : Option TokenKind). turn o v x k) h ∙ e) (λ f. absurd (true≢false (sym f))) a.run }

-- an item that gives way
pub pop : {s : Text} {i : ℕ} (x : Item) (k : List Item) (t : Option TokenKind) → kind_at s.tokens i ≡ t → ((v : ℕ) → turn t v x k ≡ stays v k) → Goes s i k → Goes s i (x ∷ k)
pop x k t h e g = λ v. stays_by t v k h (e v) (g v)

-- ---- what gives way

pub cast_gives : (t : Option TokenKind) (k : List Item) → IsTrue (closing t) → (v : ℕ) → turn t v item.cast k ≡ stays v k
cast_gives (Some token.DoubleColon) k c v = absurd (true≢false (sym c))
cast_gives _ k c v = refl

pub power_gives : (t : Option TokenKind) (k : List Item) → IsTrue (closing t) → (v : ℕ) → turn t v item.power k ≡ stays v k
power_gives (Some token.Caret) k c v = absurd (true≢false (sym c))
power_gives _ k c v = refl

no_operator : (r : Rank) (t : Option TokenKind) → IsTrue (closing t) → operator (rank_of r) t ≡ None
no_operator rank.Ors (Some token.Or) c = absurd (true≢false (sym c))
no_operator rank.Ors _ c = refl
no_operator rank.Ands (Some token.And) c = absurd (true≢false (sym c))
no_operator rank.Ands _ c = refl
no_operator rank.Comparisons (Some token.Less) c = absurd (true≢false (sym c))
no_operator rank.Comparisons (Some token.Greater) c = absurd (true≢false (sym c))
no_operator rank.Comparisons (Some token.LessEqual) c = absurd (true≢false (sym c))
no_operator rank.Comparisons (Some token.GreaterEqual) c = absurd (true≢false (sym c))
no_operator rank.Comparisons (Some token.NotEqual) c = absurd (true≢false (sym c))
no_operator rank.Comparisons (Some token.EqualEqual) c = absurd (true≢false (sym c))
no_operator rank.Comparisons _ c = refl
no_operator rank.Sums (Some token.Plus) c = absurd (true≢false (sym c))
no_operator rank.Sums (Some token.Minus) c = absurd (true≢false (sym c))
no_operator rank.Sums _ c = refl
no_operator rank.Products (Some token.Star) c = absurd (true≢false (sym c))
no_operator rank.Products (Some token.Slash) c = absurd (true≢false (sym c))
no_operator rank.Products (Some token.DoubleSlash) c = absurd (true≢false (sym c))
no_operator rank.Products (Some token.Percent) c = absurd (true≢false (sym c))
no_operator rank.Products _ c = refl

pub operations_give : (r : Rank) (t : Option TokenKind) (k : List Item) → IsTrue (closing t) → (v : ℕ) → turn t v (item.operations r) k ≡ stays v k
operations_give r t k c v = ap (λ (o : Option BinOp). operations_turn o r v k) (no_operator r t c)

pub run_gives : (t : Option TokenKind) (k : List Item) → IsTrue (closing t) → (v : ℕ) → turn t v item.run k ≡ stays v k
run_gives (Some token.DoubleDot) k c v = absurd (true≢false (sym c))
run_gives _ k c v = refl

pub run_more_gives : (t : Option TokenKind) (k : List Item) → IsTrue (closing t) → (v : ℕ) → turn t v item.run_more k ≡ stays v k
run_more_gives (Some token.DoubleDot) k c v = absurd (true≢false (sym c))
run_more_gives _ k c v = refl

pub list_more_gives : (t : Option TokenKind) (k : List Item) → IsTrue (closing_list t) → (v : ℕ) → turn t v item.list_more k ≡ stays v k
list_more_gives (Some token.Comma) k c v = absurd (true≢false (sym c))
list_more_gives _ k c v = refl

pub bind_more_gives : (t : Option TokenKind) (k : List Item) → IsTrue (closing_list t) → (v : ℕ) → turn t v item.bind_more k ≡ stays v k
bind_more_gives (Some token.Comma) k c v = absurd (true≢false (sym c))
bind_more_gives _ k c v = refl

pub for_step_gives : (t : Option TokenKind) (k : List Item) → IsTrue (closing_list t) → (v : ℕ) → turn t v item.for_step k ≡ stays v k
for_step_gives (Some token.Comma) k c v = absurd (true≢false (sym c))
for_step_gives _ k c v = refl

pub suffixes_give : (c : PrefixEnd) (t : Option TokenKind) (k : List Item) → IsTrue (closing t) → (v : ℕ) → turn t v (item.suffixes c in_expression) k ≡ stays v k
suffixes_give e (Some token.Dot) k c v = absurd (true≢false (sym c))
suffixes_give e (Some token.OpenBracket) k c v = absurd (true≢false (sym c))
suffixes_give e (Some token.Colon) k c v = absurd (true≢false (sym c))
suffixes_give e (Some token.OpenParen) k c v = absurd (true≢false (sym c))
suffixes_give e (Some token.OpenBrace) k c v = absurd (true≢false (sym c))
suffixes_give e (Some (token.Str x)) k c v = absurd (true≢false (sym c))
suffixes_give e _ k c v = refl

pub typing_gives : (t : Option TokenKind) (k : List Item) → IsTrue (closing t) → (v : ℕ) → turn t v item.typing k ≡ stays v k
typing_gives (Some token.Colon) k c v = absurd (true≢false (sym c))
typing_gives _ k c v = refl

pub generics_give : (t : Option TokenKind) (k : List Item) → IsTrue (no_generics t) → (v : ℕ) → turn t v item.generics k ≡ stays v k
generics_give (Some token.Less) k c v = absurd (true≢false (sym c))
generics_give _ k c v = refl

pub members_give : (t : Option TokenKind) (k : List Item) → IsTrue (no_member t) → (v : ℕ) → turn t v item.members k ≡ stays v k
members_give (Some token.Dot) k c v = absurd (true≢false (sym c))
members_give (Some token.Colon) k c v = absurd (true≢false (sym c))
members_give _ k c v = refl

pub local_values_give : (t : Option TokenKind) (k : List Item) → IsTrue (ends_block t) → (v : ℕ) → turn t v item.local_values k ≡ stays v k
local_values_give (Some token.Equal) k c v = absurd (true≢false (sym c))
local_values_give _ k c v = refl

pub block_gives : (t : Option TokenKind) (k : List Item) → IsTrue (ends_block t) → (v : ℕ) → turn t v item.block k ≡ stays v k
block_gives None k c v = refl
block_gives (Some token.End) k c v = refl
block_gives (Some token.Else) k c v = refl
block_gives (Some token.ElseIf) k c v = refl
block_gives (Some token.Until) k c v = refl
block_gives _ k c v = absurd (true≢false (sym c))

pub block_end_gives : (t : Option TokenKind) (k : List Item) → IsTrue (ends_block t) → (v : ℕ) → turn t v item.block_end k ≡ stays v k
block_end_gives t k c v = ap (λ (b : Bool). ending_turn b v k) c

pub last_end_gives : (t : Option TokenKind) (k : List Item) → IsTrue (ends_block t) → (v : ℕ) → turn t v item.last_end k ≡ stays v k
last_end_gives None k c v = refl
last_end_gives (Some token.End) k c v = refl
last_end_gives (Some token.Else) k c v = refl
last_end_gives (Some token.ElseIf) k c v = refl
last_end_gives (Some token.Until) k c v = refl
last_end_gives _ k c v = absurd (true≢false (sym c))

pub return_gives : (t : Option TokenKind) (k : List Item) → IsTrue (ends_block t) → (v : ℕ) → turn t v item.return_list k ≡ stays v k
return_gives None k c v = refl
return_gives (Some token.End) k c v = refl
return_gives (Some token.Else) k c v = refl
return_gives (Some token.ElseIf) k c v = refl
return_gives (Some token.Until) k c v = refl
return_gives _ k c v = absurd (true≢false (sym c))

pub stat_end_gives : (t : Option TokenKind) (k : List Item) → IsTrue (ends_block t) → (v : ℕ) → turn t v item.stat_end k ≡ stays v (item.block ∷ k)
stat_end_gives (Some token.Semicolon) k c v = absurd (true≢false (sym c))
stat_end_gives _ k c v = refl

-- ---- expressions

pub wrap_goes : {s : Text} {i : ℕ} (k : List Item) → Goes s i k → Goes s i (item.wrap ∷ k)
wrap_goes {s = s} {i = i} k g = λ v. stays_by (kind_at s.tokens i) (suc v) k refl refl (g (suc v))

pub greater_goes : {s : Text} {i : ℕ} (w : ℕ) (k : List Item) → Goes s i k → Goes s i (item.greater w ∷ k)
greater_goes {s = s} {i = i} w k g = λ v. stays_by (kind_at s.tokens i) (max w v) k refl refl (g (max w v))

pub simple_goes : {s : Text} {i : ℕ} (k : List Item) → Has s.tokens i token.Nil → Goes s (i + 1) k → Goes s i (item.simple ∷ k)
simple_goes k h g = λ v. takes_by (Some token.Nil) 0 v k h refl (g v)

pub unary_goes : {s : Text} {i : ℕ} (k : List Item) (t : Option TokenKind) → Has s.tokens i token.Nil → kind_at s.tokens (i + 1) ≡ t → IsTrue (closing t) → Goes s (i + 1) k → Goes s i (item.unary ∷ k)
unary_goes k t h e c g = λ v. stays_by (Some token.Nil) v (item.simple ∷ item.cast ∷ item.power ∷ k) h refl (simple_goes (item.cast ∷ item.power ∷ k) h (pop item.cast (item.power ∷ k) t e (cast_gives t (item.power ∷ k) c) (pop item.power k t e (power_gives t k c) g)) v)

operations_go : {s : Text} {i : ℕ} (r : Rank) (k : List Item) (t : Option TokenKind) → kind_at s.tokens i ≡ t → IsTrue (closing t) → Goes s i k → Goes s i (item.operations r ∷ k)
operations_go r k t e c g = pop (item.operations r) k t e (operations_give r t k c) g

run_goes : {s : Text} {i : ℕ} (k : List Item) (t : Option TokenKind) → kind_at s.tokens i ≡ t → IsTrue (closing t) → Goes s i k → Goes s i (item.run ∷ k)
run_goes k t e c g = pop item.run k t e (run_gives t k c) g

climb_goes : {s : Text} {i : ℕ} (l : Level) (k : List Item) (t : Option TokenKind) → kind_at s.tokens i ≡ t → IsTrue (closing t) → Goes s i k → Goes s i (climb l k)
climb_goes levels.Unaries k t e c g = g
climb_goes levels.Runs k t e c g = operations_go rank.Products _ t e c (operations_go rank.Sums _ t e c (run_goes k t e c g))
climb_goes (levels.Of rank.Products) k t e c g = operations_go rank.Products k t e c g
climb_goes (levels.Of rank.Sums) k t e c g = operations_go rank.Products _ t e c (operations_go rank.Sums k t e c g)
climb_goes (levels.Of rank.Comparisons) k t e c g = operations_go rank.Products _ t e c (operations_go rank.Sums _ t e c (run_goes _ t e c (operations_go rank.Comparisons k t e c g)))
climb_goes (levels.Of rank.Ands) k t e c g = operations_go rank.Products _ t e c (operations_go rank.Sums _ t e c (run_goes _ t e c (operations_go rank.Comparisons _ t e c (operations_go rank.Ands k t e c g))))
climb_goes (levels.Of rank.Ors) k t e c g = operations_go rank.Products _ t e c (operations_go rank.Sums _ t e c (run_goes _ t e c (operations_go rank.Comparisons _ t e c (operations_go rank.Ands _ t e c (operations_go rank.Ors k t e c g)))))

pub level_goes : {s : Text} {i : ℕ} (l : Level) (k : List Item) (t : Option TokenKind) → Has s.tokens i token.Nil → kind_at s.tokens (i + 1) ≡ t → IsTrue (closing t) → Goes s (i + 1) k → Goes s i (item.level l ∷ k)
level_goes l k t h e c g = λ v. stays_by (Some token.Nil) 0 (item.unary ∷ climb l (item.greater v ∷ k)) h refl (unary_goes (climb l (item.greater v ∷ k)) t h e c (climb_goes l (item.greater v ∷ k) t e c (greater_goes v k g)) 0)

pub expression_goes : {s : Text} {i : ℕ} (k : List Item) (t : Option TokenKind) → Has s.tokens i token.Nil → kind_at s.tokens (i + 1) ≡ t → IsTrue (closing t) → Goes s (i + 1) k → Goes s i (item.expression ∷ k)
expression_goes k t h e c g = level_goes (levels.Of rank.Ors) k t h e c g

pub list_goes : {s : Text} {i : ℕ} (k : List Item) (t : Option TokenKind) → Has s.tokens i token.Nil → kind_at s.tokens (i + 1) ≡ t → IsTrue (closing_list t) → Goes s (i + 1) k → Goes s i (item.expression ∷ item.list_more ∷ k)
list_goes k t h e c g = expression_goes (item.list_more ∷ k) t h e (list_closes t c) (pop item.list_more k t e (list_more_gives t k c) g)

-- ---- words, names and types

word_turn : (w : Word) (v : ℕ) (k : List Item) → turn (Some (token_of w)) v (item.expects w) k ≡ takes 0 v k
word_turn w v k = ap (λ (b : Bool). if b then takes 0 v k else stops) (is_itself w)

pub word_goes : {s : Text} {i : ℕ} (w : Word) (k : List Item) → Has s.tokens i (token_of w) → Goes s (i + 1) k → Goes s i (item.expects w ∷ k)
word_goes w k h g = λ v. takes_by (Some (token_of w)) 0 v k h (word_turn w v k) (g v)

pub name_goes : {s : Text} {i : ℕ} (x : StrId) (k : List Item) → Has s.tokens i (token.Name x) → Goes s (i + 1) k → Goes s i (item.a_name ∷ k)
name_goes x k h g = λ v. takes_by (Some (token.Name x)) 0 v k h refl (g v)

no_question : (t : Option TokenKind) → IsTrue (behind_type t) → t ≡ Some token.Question → ⊥
no_question t b e = true≢false (sym b ∙ ap behind_type e)

no_bar : (t : Option TokenKind) → IsTrue (behind_type t) → is_bar t ≡ false
no_bar (Some token.Pipe) b = absurd (true≢false (sym b))
no_bar (Some token.Ampersand) b = absurd (true≢false (sym b))
no_bar _ b = refl

nil_type : (s : Text) (i : ℕ) (t : Option TokenKind) → Has s.tokens i token.Nil → kind_at s.tokens (i + 1) ≡ t → IsTrue (behind_type t) → IsType s.tokens s.brackets i (i + 1)
nil_type s i t h e b =
    types.plain_type s.brackets i (i + 1) (ap is_bar h)
    (types.last_part s.brackets i (i + 1) (types.part s.brackets i (i + 1) (i + 1) (types.literal s.brackets i (ap is_literal h)) (types.no_mark (i + 1) (λ there. no_question t b (sym e ∙ there)))) (ap is_bar e ∙ no_bar t b))

pub type_goes : {s : Text} {i : ℕ} (k : List Item) (t : Option TokenKind) → Has s.tokens i token.Nil → kind_at s.tokens (i + 1) ≡ t → IsTrue (behind_type t) → Goes s (i + 1) k → Goes s i (item.a_type ∷ k)
type_goes {s = s} {i = i} k t h e b g = λ v. let a = g v in record { turns = suc a.turns; run = pass a.turns i v (i + 1) k false (nil_type s i t h e b) a.run }

-- ---- statements and functions

-- "=" and "nil"
pub equal_goes : {s : Text} {i : ℕ} (u : PrefixUse) (k : List Item) (t : Option TokenKind) → IsTrue (fits (item.suffixes in_target u) t) → Has s.tokens i token.Equal → Has s.tokens (i + 1) token.Nil → kind_at s.tokens (i + 1 + 1) ≡ t → Goes s (i + 1 + 1) k → (u ≡ in_expression → ⊥) → Goes s i (item.suffixes in_target u ∷ k)
equal_goes in_expression k t f h n e g no_expression = absurd (no_expression refl)
equal_goes first_target k t f h n e g no_expression = λ v. takes_by (Some token.Equal) 0 v (item.expression ∷ item.list_more ∷ k) h refl (list_goes k t n e f g v)
equal_goes later_target k t f h n e g no_expression = λ v. takes_by (Some token.Equal) 0 v (item.expression ∷ item.list_more ∷ k) h refl (list_goes k t n e f g v)

pub body_goes : {s : Text} {i : ℕ} (k : List Item) → Has s.tokens i token.OpenParen → Has s.tokens (i + 1) token.CloseParen → Has s.tokens (i + 1 + 1) token.End → Goes s (i + 1 + 1 + 1) k → Goes s i (item.body ∷ k)
body_goes k o c e g = λ v.
    stays_by (Some token.OpenParen) v (item.generics ∷ item.expects word.OpenParen ∷ item.parameters ∷ item.typing ∷ item.block ∷ item.expects word.End ∷ k) o refl
    (stays_by (Some token.OpenParen) v (item.expects word.OpenParen ∷ item.parameters ∷ item.typing ∷ item.block ∷ item.expects word.End ∷ k) o refl
    (takes_by (Some token.OpenParen) 0 v (item.parameters ∷ item.typing ∷ item.block ∷ item.expects word.End ∷ k) o refl
    (takes_by (Some token.CloseParen) 0 v (item.typing ∷ item.block ∷ item.expects word.End ∷ k) c refl
    (stays_by (Some token.End) v (item.block ∷ item.expects word.End ∷ k) e refl
    (stays_by (Some token.End) v (item.expects word.End ∷ k) e refl
    (takes_by (Some token.End) 0 v k e refl (g v)))))))
