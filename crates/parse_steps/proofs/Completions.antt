-- The shortest text of a sound stack leads to the end: each item.
use Rattle.std.proofs.Common.{◌≡◌, ℕ, ◌+◌, Bool, true, false, if◌then◌else◌, IsTrue, nat_eq, List, [], ◌∷◌, Option, Some, refl, ap, true≢false}
use Rattle.byte_text.specs.declared.StrId.{StrId}
use Rattle.syntax_tree.specs.declared.token.TokenKind.{TokenKind}
use Rattle.syntax_tree.specs.declared.token.TokenKind.TheVariants as token
use Rattle.syntax_tree.specs.Grammar.{PrefixEnd, in_target}
use Rattle.syntax_tree.specs.Places.{kind_at, Has}
use Rattle.syntax_tree.specs.Words.{continue_name, type_name, export_name, ends_block}
use Rattle.type_skip.specs.declared.words.Word.TheVariants as word
use Rattle.parse_steps.specs.Items.{Item, PrefixUse, in_expression, first_target, later_target}
use Rattle.parse_steps.specs.Items as item
use Rattle.parse_steps.specs.Turns.{turn, named_stat}
use Rattle.parse_steps.proofs.Accepting.{Text, over}
use Rattle.parse_steps.proofs.Completing.{some_name, finish, first, closing, closing_list, fits, Sound, Spells, head_at, block_closes_list, block_closes}
use Rattle.parse_steps.proofs.Completed.{Goes, stays_by, takes_by, pop, cast_gives, power_gives, operations_give, run_gives, run_more_gives, list_more_gives, bind_more_gives, for_step_gives, suffixes_give, typing_gives, generics_give, members_give, local_values_give, block_gives, block_end_gives, last_end_gives, return_gives, stat_end_gives, wrap_goes, greater_goes, simple_goes, unary_goes, level_goes, expression_goes, list_goes, word_goes, name_goes, type_goes, equal_goes, body_goes}

-- "." Name "=" "nil"
member_goes : {s : Text} {i : ℕ} (c : PrefixEnd) (u : PrefixUse) (k : List Item) (t : Option TokenKind) → IsTrue (fits (item.suffixes in_target u) t) → Has s.tokens i token.Dot → Has s.tokens (i + 1) (token.Name some_name) → Has s.tokens (i + 1 + 1) token.Equal → Has s.tokens (i + 1 + 1 + 1) token.Nil → kind_at s.tokens (i + 1 + 1 + 1 + 1) ≡ t → Goes s (i + 1 + 1 + 1 + 1) k → (u ≡ in_expression → ⊥) → Goes s i (item.suffixes c u ∷ k)
member_goes c u k t f dot name equal nil e g no_expression = λ v. takes_by (Some token.Dot) _ v (item.a_name ∷ item.wrap ∷ item.suffixes in_target u ∷ k) dot refl (name_goes some_name (item.wrap ∷ item.suffixes in_target u ∷ k) name (wrap_goes (item.suffixes in_target u ∷ k) (equal_goes u k t f equal nil e g no_expression)) v)

after_name_turn : (x : StrId) (v : ℕ) (k : List Item) → turn (Some token.Equal) v (item.after_name x) k ≡ named_stat v k
after_name_turn x v k = by_names (nat_eq x.0 continue_name.0) (nat_eq x.0 type_name.0) (nat_eq x.0 export_name.0)
  where
    by_names : (a b c : Bool) → (if a then named_stat v k else if b then named_stat v k else if c then named_stat v k else named_stat v k) ≡ named_stat v k
    by_names true b c = refl
    by_names false true c = refl
    by_names false false true = refl
    by_names false false false = refl

stat_end_goes : {s : Text} {i : ℕ} (k : List Item) (t : Option TokenKind) → kind_at s.tokens i ≡ t → IsTrue (ends_block t) → Goes s i k → Goes s i (item.stat_end ∷ k)
stat_end_goes k t e c g = λ v. stays_by t v (item.block ∷ k) e (stat_end_gives t k c v) (pop item.block k t e (block_gives t k c) g v)

no_first : first_target ≡ in_expression → ⊥
no_first e = true≢false (ap (elim [ in_expression ↦ false | first_target ↦ true | later_target ↦ true ]) e)

no_later : later_target ≡ in_expression → ⊥
no_later e = true≢false (ap (elim [ in_expression ↦ false | first_target ↦ true | later_target ↦ true ]) e)

after_name_goes : {s : Text} {i : ℕ} (x : StrId) (k : List Item) (t : Option TokenKind) → IsTrue (ends_block t) → Has s.tokens i token.Equal → Has s.tokens (i + 1) token.Nil → kind_at s.tokens (i + 1 + 1) ≡ t → Goes s (i + 1 + 1) k → Goes s i (item.after_name x ∷ k)
after_name_goes x k t c equal nil e g = λ v.
    stays_by (Some token.Equal) 0 (item.suffixes in_target first_target ∷ item.greater v ∷ item.stat_end ∷ k) equal (after_name_turn x v k)
    (equal_goes first_target (item.greater v ∷ item.stat_end ∷ k) t (block_closes_list t c) equal nil e (greater_goes v (item.stat_end ∷ k) (stat_end_goes k t e c g)) no_first 0)

target_goes : {s : Text} {i : ℕ} (k : List Item) (t : Option TokenKind) → IsTrue (closing_list t) → Has s.tokens i (token.Name some_name) → Has s.tokens (i + 1) token.Equal → Has s.tokens (i + 1 + 1) token.Nil → kind_at s.tokens (i + 1 + 1 + 1) ≡ t → Goes s (i + 1 + 1 + 1) k → Goes s i (item.target ∷ k)
target_goes k t c name equal nil e g = λ v. takes_by (Some (token.Name some_name)) 0 0 (item.suffixes in_target later_target ∷ item.greater v ∷ k) name refl (equal_goes later_target (item.greater v ∷ k) t c equal nil e (greater_goes v k g) no_later 0)

bind_goes : {s : Text} {i : ℕ} (k : List Item) (t : Option TokenKind) → IsTrue (closing t) → Has s.tokens i (token.Name some_name) → kind_at s.tokens (i + 1) ≡ t → Goes s (i + 1) k → Goes s i (item.bind ∷ k)
bind_goes k t c name e g = λ v. takes_by (Some (token.Name some_name)) 0 v (item.typing ∷ k) name refl (pop item.typing k t e (typing_gives t k c) g v)

local_goes : {s : Text} {i : ℕ} (k : List Item) (t : Option TokenKind) → IsTrue (ends_block t) → Has s.tokens i (token.Name some_name) → kind_at s.tokens (i + 1) ≡ t → Goes s (i + 1) k → Goes s i (item.local_what ∷ k)
local_goes k t c name e g = λ v.
    stays_by (Some (token.Name some_name)) v (item.bind ∷ item.bind_more ∷ item.local_values ∷ item.stat_end ∷ k) name refl
    (bind_goes (item.bind_more ∷ item.local_values ∷ item.stat_end ∷ k) t (block_closes t c) name e
    (pop item.bind_more (item.local_values ∷ item.stat_end ∷ k) t e (bind_more_gives t (item.local_values ∷ item.stat_end ∷ k) (block_closes_list t c))
    (pop item.local_values (item.stat_end ∷ k) t e (local_values_give t (item.stat_end ∷ k) c) (stat_end_goes k t e c g))) v)

for_goes : {s : Text} {i : ℕ} (k : List Item) → Has s.tokens i token.In → Has s.tokens (i + 1) token.Nil → Has s.tokens (i + 1 + 1) token.Do → Has s.tokens (i + 1 + 1 + 1) token.End → Goes s (i + 1 + 1 + 1 + 1) k → Goes s i (item.for_what ∷ k)
for_goes k there nil does end g = λ v.
    stays_by (Some token.In) v (item.bind_more ∷ item.expects word.In ∷ item.expression ∷ item.list_more ∷ item.expects word.Do ∷ item.block ∷ item.expects word.End ∷ k) there refl
    (stays_by (Some token.In) v (item.expects word.In ∷ item.expression ∷ item.list_more ∷ item.expects word.Do ∷ item.block ∷ item.expects word.End ∷ k) there refl
    (word_goes word.In (item.expression ∷ item.list_more ∷ item.expects word.Do ∷ item.block ∷ item.expects word.End ∷ k) there
    (list_goes (item.expects word.Do ∷ item.block ∷ item.expects word.End ∷ k) (Some token.Do) nil does refl
    (word_goes word.Do (item.block ∷ item.expects word.End ∷ k) does
    (pop item.block (item.expects word.End ∷ k) (Some token.End) end (block_gives (Some token.End) (item.expects word.End ∷ k) refl) (word_goes word.End k end g)))) v))

generic_more_goes : {s : Text} {i : ℕ} (k : List Item) → Has s.tokens i token.Greater → Goes s (i + 1) k → Goes s i (item.generic_more ∷ k)
generic_more_goes k h g = λ v. takes_by (Some token.Greater) 0 v k h refl (g v)

generic_default_goes : {s : Text} {i : ℕ} (k : List Item) → Has s.tokens i token.Greater → Goes s (i + 1) k → Goes s i (item.generic_default ∷ k)
generic_default_goes k h g = λ v. stays_by (Some token.Greater) v (item.generic_more ∷ k) h refl (generic_more_goes k h g v)

generic_dots_goes : {s : Text} {i : ℕ} (k : List Item) → Has s.tokens i token.Greater → Goes s (i + 1) k → Goes s i (item.generic_dots ∷ k)
generic_dots_goes k h g = λ v. stays_by (Some token.Greater) v (item.generic_default ∷ k) h refl (generic_default_goes k h g v)

argument_list_goes : {s : Text} {i : ℕ} (k : List Item) → Has s.tokens i token.CloseParen → Goes s (i + 1) k → Goes s i (item.argument_list ∷ k)
argument_list_goes k h g = λ v. takes_by (Some token.CloseParen) 0 v k h refl (g v)

-- the text of one item, before that of the others
item_goes : (s : Text) (x : Item) (k : List Item) → IsTrue (fits x (first k)) → ((j : ℕ) → Spells s.tokens j (finish k) → Goes s j k) → (i : ℕ) → Spells s.tokens i (finish (x ∷ k)) → Goes s i (x ∷ k)
item_goes s (item.expects w) k f g i h = word_goes w k h.0 (g (i + 1) h.1)
item_goes s item.a_name k f g i h = name_goes some_name k h.0 (g (i + 1) h.1)
item_goes s item.a_type k f g i h = type_goes k (first k) h.0 (head_at s.tokens (i + 1) (finish k) h.1) f (g (i + 1) h.1)
item_goes s (item.level l) k f g i h = level_goes l k (first k) h.0 (head_at s.tokens (i + 1) (finish k) h.1) f (g (i + 1) h.1)
item_goes s item.unary k f g i h = unary_goes k (first k) h.0 (head_at s.tokens (i + 1) (finish k) h.1) f (g (i + 1) h.1)
item_goes s item.simple k f g i h = simple_goes k h.0 (g (i + 1) h.1)
item_goes s item.cast k f g i h = pop item.cast k (first k) (head_at s.tokens i (finish k) h) (cast_gives (first k) k f) (g i h)
item_goes s item.power k f g i h = pop item.power k (first k) (head_at s.tokens i (finish k) h) (power_gives (first k) k f) (g i h)
item_goes s (item.operations r) k f g i h = pop (item.operations r) k (first k) (head_at s.tokens i (finish k) h) (operations_give r (first k) k f) (g i h)
item_goes s item.run k f g i h = pop item.run k (first k) (head_at s.tokens i (finish k) h) (run_gives (first k) k f) (g i h)
item_goes s item.run_more k f g i h = pop item.run_more k (first k) (head_at s.tokens i (finish k) h) (run_more_gives (first k) k f) (g i h)
item_goes s item.list_more k f g i h = pop item.list_more k (first k) (head_at s.tokens i (finish k) h) (list_more_gives (first k) k f) (g i h)
item_goes s item.pieces k f g i h = λ v. takes_by (Some (token.InterpEnd some_name)) 0 v k h.0 refl (g (i + 1) h.1 v)
item_goes s item.choice_more k f g i h = λ v. takes_by (Some token.Else) 0 v (item.expression ∷ k) h.0 refl (expression_goes k (first k) h.1.0 (head_at s.tokens (i + 1 + 1) (finish k) h.1.1) f (g (i + 1 + 1) h.1.1) v)
item_goes s (item.suffixes c in_expression) k f g i h = pop (item.suffixes c in_expression) k (first k) (head_at s.tokens i (finish k) h) (suffixes_give c (first k) k f) (g i h)
item_goes s (item.suffixes c first_target) k f g i h = member_goes c first_target k (first k) f h.0 h.1.0 h.1.1.0 h.1.1.1.0 (head_at s.tokens (i + 1 + 1 + 1 + 1) (finish k) h.1.1.1.1) (g (i + 1 + 1 + 1 + 1) h.1.1.1.1) no_first
item_goes s (item.suffixes c later_target) k f g i h = member_goes c later_target k (first k) f h.0 h.1.0 h.1.1.0 h.1.1.1.0 (head_at s.tokens (i + 1 + 1 + 1 + 1) (finish k) h.1.1.1.1) (g (i + 1 + 1 + 1 + 1) h.1.1.1.1) no_later
item_goes s item.arguments k f g i h = λ v. takes_by (Some token.OpenParen) _ v (item.argument_list ∷ k) h.0 refl (argument_list_goes k h.1.0 (g (i + 1 + 1) h.1.1) v)
item_goes s item.argument_list k f g i h = argument_list_goes k h.0 (g (i + 1) h.1)
item_goes s item.fields k f g i h = λ v. takes_by (Some token.CloseBrace) 0 v k h.0 refl (g (i + 1) h.1 v)
item_goes s item.field_name k f g i h = λ v. takes_by (Some token.Equal) 0 v (item.expression ∷ k) h.0 refl (expression_goes k (first k) h.1.0 (head_at s.tokens (i + 1 + 1) (finish k) h.1.1) f (g (i + 1 + 1) h.1.1) v)
item_goes s item.field_end k f g i h = λ v. takes_by (Some token.CloseBrace) 0 v k h.0 refl (g (i + 1) h.1 v)
item_goes s item.body k f g i h = body_goes k h.0 h.1.0 h.1.1.0 (g (i + 1 + 1 + 1) h.1.1.1)
item_goes s item.parameters k f g i h = λ v. takes_by (Some token.CloseParen) 0 v k h.0 refl (g (i + 1) h.1 v)
item_goes s item.parameter k f g i h = λ v.
    takes_by (Some token.TripleDot) 0 v (item.typing ∷ item.expects word.CloseParen ∷ k) h.0 refl
    (stays_by (Some token.CloseParen) v (item.expects word.CloseParen ∷ k) h.1.0 refl (word_goes word.CloseParen k h.1.0 (g (i + 1 + 1) h.1.1) v))
item_goes s item.parameter_more k f g i h = λ v. takes_by (Some token.CloseParen) 0 v k h.0 refl (g (i + 1) h.1 v)
item_goes s item.typing k f g i h = pop item.typing k (first k) (head_at s.tokens i (finish k) h) (typing_gives (first k) k f) (g i h)
item_goes s item.generics k f g i h = pop item.generics k (first k) (head_at s.tokens i (finish k) h) (generics_give (first k) k f) (g i h)
item_goes s item.generic k f g i h = λ v. takes_by (Some (token.Name some_name)) 0 v (item.generic_dots ∷ k) h.0 refl (generic_dots_goes k h.1.0 (g (i + 1 + 1) h.1.1) v)
item_goes s item.generic_dots k f g i h = generic_dots_goes k h.0 (g (i + 1) h.1)
item_goes s item.generic_default k f g i h = generic_default_goes k h.0 (g (i + 1) h.1)
item_goes s item.generic_more k f g i h = generic_more_goes k h.0 (g (i + 1) h.1)
item_goes s item.block k f g i h = pop item.block k (first k) (head_at s.tokens i (finish k) h) (block_gives (first k) k f) (g i h)
item_goes s item.stat_end k f g i h = stat_end_goes k (first k) (head_at s.tokens i (finish k) h) f (g i h)
item_goes s item.return_list k f g i h = pop item.return_list k (first k) (head_at s.tokens i (finish k) h) (return_gives (first k) k f) (g i h)
item_goes s item.last_end k f g i h = pop item.last_end k (first k) (head_at s.tokens i (finish k) h) (last_end_gives (first k) k f) (g i h)
item_goes s item.block_end k f g i h = pop item.block_end k (first k) (head_at s.tokens i (finish k) h) (block_end_gives (first k) k f) (g i h)
item_goes s (item.after_name x) k f g i h = after_name_goes x k (first k) f h.0 h.1.0 (head_at s.tokens (i + 1 + 1) (finish k) h.1.1) (g (i + 1 + 1) h.1.1)
item_goes s item.target k f g i h = target_goes k (first k) f h.0 h.1.0 h.1.1.0 (head_at s.tokens (i + 1 + 1 + 1) (finish k) h.1.1.1) (g (i + 1 + 1 + 1) h.1.1.1)
item_goes s item.local_what k f g i h = local_goes k (first k) f h.0 (head_at s.tokens (i + 1) (finish k) h.1) (g (i + 1) h.1)
item_goes s item.local_values k f g i h = pop item.local_values k (first k) (head_at s.tokens i (finish k) h) (local_values_give (first k) k f) (g i h)
item_goes s item.bind k f g i h = bind_goes k (first k) f h.0 (head_at s.tokens (i + 1) (finish k) h.1) (g (i + 1) h.1)
item_goes s item.bind_more k f g i h = pop item.bind_more k (first k) (head_at s.tokens i (finish k) h) (bind_more_gives (first k) k f) (g i h)
item_goes s item.for_what k f g i h = for_goes k h.0 h.1.0 h.1.1.0 h.1.1.1.0 (g (i + 1 + 1 + 1 + 1) h.1.1.1.1)
item_goes s item.for_step k f g i h = pop item.for_step k (first k) (head_at s.tokens i (finish k) h) (for_step_gives (first k) k f) (g i h)
item_goes s item.members k f g i h = pop item.members k (first k) (head_at s.tokens i (finish k) h) (members_give (first k) k f) (g i h)
item_goes s item.assigned_function k f g i h = λ v. stays_by (Some token.OpenParen) 0 (item.body ∷ item.wrap ∷ item.greater v ∷ k) h.0 refl (body_goes (item.wrap ∷ item.greater v ∷ k) h.0 h.1.0 h.1.1.0 (wrap_goes (item.greater v ∷ k) (greater_goes v k (g (i + 1 + 1 + 1) h.1.1.1))) 0)
item_goes s item.arm_more k f g i h = λ v. takes_by (Some token.End) 0 v k h.0 refl (g (i + 1) h.1 v)
item_goes s item.wrap k f g i h = wrap_goes k (g i h)
item_goes s (item.greater w) k f g i h = greater_goes w k (g i h)

pub completed : (s : Text) (k : List Item) → Sound k → (i : ℕ) → Spells s.tokens i (finish k) → Goes s i k
completed s [] sound i h = λ v. record { turns = 0; run = over i v h }
completed s (x ∷ k) sound i h = item_goes s x k sound.0 (λ j e. completed s k sound.1 j e) i h
