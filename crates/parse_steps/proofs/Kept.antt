-- A turn keeps a state within its limit: where a token opens nodes, the limit grows by no more than the weight of the token.
use Rattle.std.proofs.Common.{◌≡◌, ◌≤◌, ◌+◌, ℕ, suc, max, Bool, true, false, List, ◌∷◌, Option, Some, None, refl, sym, subst, arith}
use Rattle.std.specs.Prelude.{if◌then◌else◌, nat_eq}
use Rattle.byte_text.specs.declared.StrId.{StrId}
use Rattle.syntax_tree.specs.declared.token.TokenKind.{TokenKind}
use Rattle.syntax_tree.specs.declared.token.TokenKind.TheVariants as token
use Rattle.syntax_tree.specs.Grammar.{PrefixEnd, in_target, in_call, in_paren}
use Rattle.syntax_tree.specs.Operators.{operator, unary_operator}
use Rattle.syntax_tree.specs.Places.{is_named}
use Rattle.syntax_tree.specs.Types.{is_separator}
use Rattle.syntax_tree.specs.Words.{continue_name, type_name, export_name, ends_block}
use Rattle.type_skip.specs.declared.words.Word.{Word}
use Rattle.type_skip.specs.declared.words.Word.TheVariants as word
use Rattle.parse_steps.specs.declared.classes.Opening.TheVariants as opens
use Rattle.parse_steps.specs.declared.levels.Rank.{Rank}
use Rattle.parse_steps.specs.declared.levels.Rank.TheVariants as rank
use Rattle.parse_steps.specs.Levels.{rank_of}
use Rattle.type_skip.specs.Words.{token_of, is_word}
use Rattle.parse_steps.specs.Classes as classes
use Rattle.parse_steps.specs.Items.{Item, PrefixUse, in_expression, first_target, later_target, depth, climb}
use Rattle.parse_steps.specs.Items as item
use Rattle.parse_steps.specs.Turns.{Turn, stops, stays, takes, turn}
use Rattle.parse_steps.specs.Turns as turns
use Rattle.syntax_tree.specs.Openings.{weight}
use Rattle.type_skip.proofs.WordTests.{has}
use Rattle.parse_steps.proofs.Limits.{Holds, Fits, Keeps, none, same, deeper, le_left, holds_more, fits_more, depth_climb, holds_climb}

-- ---- turns of one form

-- a token is taken that opens nothing
pub taken : {m e u : ℕ} {more : List Item} → Fits m u more → Keeps m e (takes 0 u more)
taken {m = m} {u = u} {more = more} f = deeper 0 u more (omega arith) (fits_more u more (le_left m 0) f)

pub left : {m e u : ℕ} {more : List Item} → Fits m u more → Keeps m e (stays u more)
left {u = u} {more = more} f = same u more f

-- a token is taken that opens a node around what was read last
pub opened : {m e v : ℕ} (k : List Item) {more : List Item} → 1 ≤ e → Fits m v k → depth more ≡ suc (depth k) → Holds m more → Keeps m e (takes (turns.next_reach v k) v more)
opened {m = m} {v = v} k {more = more} le f d h =
    let r : ℕ = turns.next_reach v k in
    deeper r v more (omega (arith, f.0, le)) (omega (arith, d), holds_more more (le_left m r) h)

-- this word, or another turn
pub keeps_word : {m : ℕ} (w : Word) (t : Option TokenKind) {a b : Turn} → Keeps m (weight (Some (token_of w))) a → Keeps m (weight t) b → Keeps m (weight t) (turns.word_or w t a b)
keeps_word {m = m} w t {a = a} {b = b} g h = decide (is_word w t) refl
  where
    decide : (c : Bool) → is_word w t ≡ c → Keeps m (weight t) (turns.word_or w t a b)
    decide true e = rw e (subst (λ (o : Option TokenKind). Keeps m (weight o) a) (sym (has w t e)) g)
    decide false e = rw e h

pub keeps_name : {m e : ℕ} (o : Option StrId) {a b : Turn} → Keeps m e a → Keeps m e b → Keeps m e (turns.name_turn o a b)
keeps_name (Some x) g h = g
keeps_name None g h = h

pub keeps_if : {m e : ℕ} (c : Bool) {a b : Turn} → Keeps m e a → Keeps m e b → Keeps m e (if c then a else b)
keeps_if true g h = g
keeps_if false g h = h

-- ---- expressions

keeps_unary : (m v : ℕ) (k : List Item) (t : Option TokenKind) → Fits m v k → Keeps m (weight t) (turns.unary_turn (unary_operator t) v k)
keeps_unary m v k (Some token.Not) f = opened k (omega arith) f refl f.1
keeps_unary m v k (Some token.Hash) f = opened k (omega arith) f refl f.1
keeps_unary m v k (Some token.Minus) f = opened k (omega arith) f refl f.1
keeps_unary m v k _ f = left f

keeps_simple : (m v : ℕ) (k : List Item) (t : Option TokenKind) → Fits m v k → Keeps m (weight t) (turns.simple_turn (classes.beginning t) v k)
keeps_simple m v k (Some token.Nil) f = taken f
keeps_simple m v k (Some token.True) f = taken f
keeps_simple m v k (Some token.False) f = taken f
keeps_simple m v k (Some (token.Number n)) f = taken f
keeps_simple m v k (Some (token.Str x)) f = taken f
keeps_simple m v k (Some token.TripleDot) f = taken f
keeps_simple m v k (Some (token.InterpWhole x)) f =
    deeper (turns.next_reach v k) (suc v) k (omega (arith, f.0)) (omega arith, holds_more k (le_left m (turns.next_reach v k)) f.1)
keeps_simple m v k (Some (token.InterpBegin x)) f = opened k (omega arith) f refl f.1
keeps_simple m v k (Some token.Function) f = opened k (omega arith) f refl f.1
keeps_simple m v k (Some token.OpenBrace) f = opened k (omega arith) f refl f.1
keeps_simple m v k (Some (token.Name x)) f = taken f
keeps_simple m v k (Some token.OpenParen) f = opened k (omega arith) f refl f.1
keeps_simple m v k (Some token.If) f = opened k (omega arith) f refl f.1
keeps_simple m v k _ f = none

keeps_operations : (m v : ℕ) (k : List Item) (r : Rank) (t : Option TokenKind) → Fits m v k → Keeps m (weight t) (turns.operations_turn (operator (rank_of r) t) r v k)
keeps_operations m v k rank.Ors (Some token.Or) f = opened k (omega arith) f refl f.1
keeps_operations m v k rank.Ands (Some token.And) f = opened k (omega arith) f refl f.1
keeps_operations m v k rank.Comparisons (Some token.Less) f = opened k (omega arith) f refl f.1
keeps_operations m v k rank.Comparisons (Some token.Greater) f = opened k (omega arith) f refl f.1
keeps_operations m v k rank.Comparisons (Some token.LessEqual) f = opened k (omega arith) f refl f.1
keeps_operations m v k rank.Comparisons (Some token.GreaterEqual) f = opened k (omega arith) f refl f.1
keeps_operations m v k rank.Comparisons (Some token.NotEqual) f = opened k (omega arith) f refl f.1
keeps_operations m v k rank.Comparisons (Some token.EqualEqual) f = opened k (omega arith) f refl f.1
keeps_operations m v k rank.Sums (Some token.Plus) f = opened k (omega arith) f refl f.1
keeps_operations m v k rank.Sums (Some token.Minus) f = opened k (omega arith) f refl f.1
keeps_operations m v k rank.Products (Some token.Star) f = opened k (omega arith) f refl f.1
keeps_operations m v k rank.Products (Some token.Slash) f = opened k (omega arith) f refl f.1
keeps_operations m v k rank.Products (Some token.DoubleSlash) f = opened k (omega arith) f refl f.1
keeps_operations m v k rank.Products (Some token.Percent) f = opened k (omega arith) f refl f.1
keeps_operations m v k _ _ f = left f

-- the node of the call may be one of those around the arguments
keeps_arguments : (m v : ℕ) (k : List Item) (t : Option TokenKind) → depth k + v ≤ m + 1 → Holds m k → Keeps m (weight t) (turns.arguments_turn (classes.arguments t) v k)
keeps_arguments m v k (Some token.OpenParen) le h =
    deeper (depth k + v) v _ le (omega arith, holds_more k (le_left m (depth k + v)) h)
keeps_arguments m v k (Some token.OpenBrace) le h =
    let r : ℕ = max (depth k + v) (turns.next_reach 0 k) in
    deeper r 0 _ (omega (arith, le)) (omega arith, (omega arith, holds_more k (le_left m r) h))
keeps_arguments m v k (Some (token.Str x)) le h =
    deeper (depth k + v) v _ le (omega arith, holds_more k (le_left m (depth k + v)) h)
keeps_arguments m v k _ le h = none

keeps_first : (m v : ℕ) (k : List Item) (t : Option TokenKind) → Fits m v k → Keeps m (weight t) (turns.prefix_turn first_target in_target t v k)
keeps_first m v k (Some token.Equal) f = taken f
keeps_first m v k (Some token.Comma) f = taken f
keeps_first m v k (Some token.PlusEqual) f = taken f
keeps_first m v k (Some token.MinusEqual) f = taken f
keeps_first m v k (Some token.StarEqual) f = taken f
keeps_first m v k (Some token.SlashEqual) f = taken f
keeps_first m v k (Some token.DoubleSlashEqual) f = taken f
keeps_first m v k (Some token.PercentEqual) f = taken f
keeps_first m v k (Some token.CaretEqual) f = taken f
keeps_first m v k (Some token.DoubleDotEqual) f = taken f
keeps_first m v k _ f = none

keeps_prefix : (m v : ℕ) (k : List Item) (u : PrefixUse) (c : PrefixEnd) (t : Option TokenKind) → Fits m v k → Keeps m (weight t) (turns.prefix_turn u c t v k)
keeps_prefix m v k in_expression c t f = left f
keeps_prefix m v k first_target in_call t f = left f
keeps_prefix m v k first_target in_paren t f = none
keeps_prefix m v k first_target in_target t f = keeps_first m v k t f
keeps_prefix m v k later_target in_call t f = none
keeps_prefix m v k later_target in_paren t f = none
keeps_prefix m v k later_target in_target t f = keeps_word word.Equal t (taken f) (keeps_word word.Comma t (taken f) none)

keeps_suffix : (m v : ℕ) (k : List Item) (c : PrefixEnd) (u : PrefixUse) (t : Option TokenKind) → Fits m v k → Keeps m (weight t) (turns.suffix_turn (classes.suffix t) c u t v k)
keeps_suffix m v k c u (Some token.Dot) f = opened k (omega arith) f refl f.1
keeps_suffix m v k c u (Some token.OpenBracket) f = opened k (omega arith) f refl f.1
keeps_suffix m v k c u (Some token.Colon) f = opened k (omega arith) f refl f.1
keeps_suffix m v k c u (Some token.OpenParen) f =
    keeps_arguments m v (item.wrap ∷ item.suffixes in_call u ∷ k) (Some token.OpenParen) (omega (arith, f.0)) f.1
keeps_suffix m v k c u (Some token.OpenBrace) f =
    keeps_arguments m v (item.wrap ∷ item.suffixes in_call u ∷ k) (Some token.OpenBrace) (omega (arith, f.0)) f.1
keeps_suffix m v k c u (Some (token.Str x)) f =
    keeps_arguments m v (item.wrap ∷ item.suffixes in_call u ∷ k) (Some (token.Str x)) (omega (arith, f.0)) f.1
keeps_suffix m v k c u t f = keeps_prefix m v k u c t f

keeps_named : (m e v : ℕ) (k : List Item) → Fits m v k → Keeps m e (turns.named_expression v k)
keeps_named m e v k f = left (omega (arith, f.0), f)

keeps_fields : (m v : ℕ) (k : List Item) (t : Option TokenKind) → Fits m v k → Keeps m (weight t) (turns.fields_turn t v k)
keeps_fields m v k t f =
    keeps_word word.CloseBrace t (taken f) (keeps_word word.OpenBracket t (taken f) (keeps_name (classes.name_of t) (taken f) (left f)))

keeps_parameter : (m v : ℕ) (k : List Item) (t : Option TokenKind) → Fits m v k → Keeps m (weight t) (turns.parameter_turn t v k)
keeps_parameter m v k t f = keeps_word word.TripleDot t (taken f) (keeps_name (classes.name_of t) (taken f) none)

-- ---- statements

keeps_ending : (m e v : ℕ) (k : List Item) (c : Bool) → Fits m v k → Keeps m e (turns.ending_turn c v k)
keeps_ending m e v k true f = left f
keeps_ending m e v k false f = none

keeps_return : (m v : ℕ) (k : List Item) (c : Bool) (t : Option TokenKind) → Fits m v k → Keeps m (weight t) (turns.return_turn c t v k)
keeps_return m v k true t f = left f
keeps_return m v k false t f = keeps_word word.Semicolon t (taken f) (left f)

-- a node around the parts of a statement, which begin with nothing; what was read before it waits
opened_stat : {m e : ℕ} (v : ℕ) (k : List Item) {more : List Item} → 1 ≤ e → Fits m v k → depth more ≡ suc (depth k) → Holds m more → Keeps m e (takes (turns.next_reach 0 k) 0 more)
opened_stat v k le f d h = opened k le (omega (arith, f.0), f.1) d h

-- a function's node is opened behind its name
opened_function : {m e v : ℕ} (k : List Item) → 1 ≤ e → Fits m v k → Keeps m e (turns.block_turn opens.Function v k)
opened_function {m = m} k le f =
    let r : ℕ = turns.next_reach 0 k in
    deeper r 0 _ (omega (arith, f.0, le)) (omega arith, (omega arith, (omega (arith, f.0), holds_more k (le_left m r) f.1)))

keeps_stat : (m e v : ℕ) (k : List Item) → Fits m v k → Keeps m e (turns.named_stat v k)
keeps_stat m e v k f = left (omega (arith, f.0), f)

keeps_continue : (m v : ℕ) (k : List Item) (c : Bool) (t : Option TokenKind) → Fits m v k → Keeps m (weight t) (turns.after_continue c t v k)
keeps_continue m v k true t f = left f
keeps_continue m v k false t f = keeps_word word.Semicolon t (taken f) (keeps_stat m (weight t) v k f)

keeps_type : (m e v : ℕ) (k : List Item) (o : Option StrId) → Fits m v k → Keeps m e (turns.after_type o v k)
keeps_type m e v k (Some x) f = taken f
keeps_type m e v k None f = keeps_stat m e v k f

keeps_export : (m e v : ℕ) (k : List Item) (c : Bool) → Fits m v k → Keeps m e (turns.after_export c v k)
keeps_export m e v k true f = taken f
keeps_export m e v k false f = keeps_stat m e v k f

keeps_after : (m v : ℕ) (k : List Item) (x : StrId) (t : Option TokenKind) → Fits m v k → Keeps m (weight t) (turns.after_name x t v k)
keeps_after m v k x t f =
    keeps_if (nat_eq x.0 continue_name.0) (keeps_continue m v k (ends_block t) t f)
    (keeps_if (nat_eq x.0 type_name.0) (keeps_type m (weight t) v k (classes.name_of t) f)
    (keeps_if (nat_eq x.0 export_name.0) (keeps_export m (weight t) v k (is_named type_name t) f) (keeps_stat m (weight t) v k f)))

keeps_block : (m v : ℕ) (k : List Item) (t : Option TokenKind) → Fits m v k → Keeps m (weight t) (turns.block_turn (classes.opening t) v k)
keeps_block m v k None f = left f
keeps_block m v k (Some token.End) f = left f
keeps_block m v k (Some token.Else) f = left f
keeps_block m v k (Some token.ElseIf) f = left f
keeps_block m v k (Some token.Until) f = left f
keeps_block m v k (Some token.Return) f = taken f
keeps_block m v k (Some token.Break) f = taken f
keeps_block m v k (Some token.Do) f = opened_stat v k (omega arith) f refl f
keeps_block m v k (Some token.While) f = opened_stat v k (omega arith) f refl f
keeps_block m v k (Some token.Repeat) f = opened_stat v k (omega arith) f refl f
keeps_block m v k (Some token.If) f = opened_stat v k (omega arith) f refl f
keeps_block m v k (Some token.For) f = opened_stat v k (omega arith) f refl f
keeps_block m v k (Some token.Function) f = opened_function k (omega arith) f
keeps_block m v k (Some token.Local) f = taken f
keeps_block m v k (Some (token.Name x)) f = taken f
keeps_block m v k (Some token.OpenParen) f = opened_stat v k (omega arith) f refl f
keeps_block m v k _ f = none

keeps_target : (m v : ℕ) (k : List Item) (t : Option TokenKind) → Fits m v k → Keeps m (weight t) (turns.target_turn t v k)
keeps_target m v k t f =
    keeps_word word.OpenParen t (opened_stat v k (omega arith) f refl f)
    (keeps_name (classes.name_of t) (taken (omega (arith, f.0), f)) none)

-- ---- all turns

pub keeps : (m v : ℕ) (x : Item) (k : List Item) (t : Option TokenKind) → Fits m v (x ∷ k) → Keeps m (weight t) (turn t v x k)
keeps m v (item.expects w) k t f = keeps_word w t (taken f) none
keeps m v item.a_name k t f = keeps_name (classes.name_of t) (taken f) none
keeps m v item.a_type k t f = none
keeps m v (item.level l) k t f =
    left (omega (arith, f.0, depth_climb l (item.greater v ∷ k)), holds_climb m l (item.greater v ∷ k) f)
keeps m v item.unary k t f = keeps_unary m v k t f
keeps m v item.simple k t f = keeps_simple m v k t f
keeps m v item.cast k t f = keeps_word word.DoubleColon t (opened k (omega arith) f refl f.1) (left f)
keeps m v item.power k t f = keeps_word word.Caret t (opened k (omega arith) f refl f.1) (left f)
keeps m v (item.operations r) k t f = keeps_operations m v k r t f
keeps m v item.run k t f = keeps_word word.DoubleDot t (opened k (omega arith) f refl f.1) (left f)
keeps m v item.run_more k t f = keeps_word word.DoubleDot t (taken f) (left f)
keeps m v item.list_more k t f = keeps_word word.Comma t (taken f) (left f)
keeps m v item.pieces k t f = keeps_name (classes.middle_of t) (taken f) (keeps_name (classes.end_of t) (taken f) none)
keeps m v item.choice_more k t f = keeps_word word.ElseIf t (taken f) (keeps_word word.Else t (taken f) none)
keeps m v (item.suffixes c u) k t f = keeps_suffix m v k c u t f
keeps m v item.arguments k t f = keeps_arguments m v k t (omega (arith, f.0)) f.1
keeps m v item.argument_list k t f = keeps_word word.CloseParen t (taken f) (left f)
keeps m v item.fields k t f = keeps_fields m v k t f
keeps m v item.field_name k t f = keeps_word word.Equal t (taken f) (keeps_named m (weight t) v k f)
keeps m v item.field_end k t f = keeps_if (is_separator t) (taken f) (keeps_word word.CloseBrace t (taken f) none)
keeps m v item.body k t f = left f
keeps m v item.parameters k t f = keeps_word word.CloseParen t (taken f) (keeps_parameter m v k t f)
keeps m v item.parameter k t f = keeps_parameter m v k t f
keeps m v item.parameter_more k t f = keeps_word word.Comma t (taken f) (keeps_word word.CloseParen t (taken f) none)
keeps m v item.typing k t f = keeps_word word.Colon t (taken f) (left f)
keeps m v item.generics k t f = keeps_word word.Less t (taken f) (left f)
keeps m v item.generic k t f = keeps_name (classes.name_of t) (taken f) none
keeps m v item.generic_dots k t f = keeps_word word.TripleDot t (taken f) (left f)
keeps m v item.generic_default k t f = keeps_word word.Equal t (taken f) (left f)
keeps m v item.generic_more k t f = keeps_word word.Comma t (taken f) (keeps_word word.Greater t (taken f) none)
keeps m v item.block k t f = keeps_block m v k t f
keeps m v item.stat_end k t f = keeps_word word.Semicolon t (taken f) (left f)
keeps m v item.return_list k t f = keeps_return m v k (ends_block t) t f
keeps m v item.last_end k t f = keeps_word word.Semicolon t (taken f) (keeps_ending m (weight t) v k (ends_block t) f)
keeps m v item.block_end k t f = keeps_ending m (weight t) v k (ends_block t) f
keeps m v (item.after_name x) k t f = keeps_after m v k x t f
keeps m v item.target k t f = keeps_target m v k t f
keeps m v item.local_what k t f = keeps_word word.Function t (opened_stat v k (omega arith) f refl f) (left f)
keeps m v item.local_values k t f = keeps_word word.Equal t (taken f) (left f)
keeps m v item.bind k t f = keeps_name (classes.name_of t) (taken f) none
keeps m v item.bind_more k t f = keeps_word word.Comma t (taken f) (left f)
keeps m v item.for_what k t f = keeps_word word.Equal t (taken f) (left f)
keeps m v item.for_step k t f = keeps_word word.Comma t (taken f) (left f)
keeps m v item.members k t f =
    keeps_word word.Dot t (opened k (omega arith) f refl f.1) (keeps_word word.Colon t (opened k (omega arith) f refl f.1) (left f))
keeps m v item.assigned_function k t f = left (omega (arith, f.1.0), (f.0, f.1.1))
keeps m v item.arm_more k t f =
    keeps_word word.ElseIf t (taken f) (keeps_word word.Else t (taken f) (keeps_word word.End t (taken f) none))
keeps m v item.wrap k t f = left (omega (arith, f.0), f.1)
keeps m v (item.greater w) k t f = left (omega (arith, f.0, f.1.0), f.1.1)
