-- Turns keep stacks sound.
use Rattle.std.proofs.Common.{ℕ, Bool, true, false, if◌then◌else◌, IsTrue, nat_eq, List, ◌∷◌, Option, Some, None, refl}
use Rattle.byte_text.specs.declared.StrId.{StrId}
use Rattle.syntax_tree.specs.declared.token.TokenKind.{TokenKind}
use Rattle.syntax_tree.specs.declared.token.TokenKind.TheVariants as token
use Rattle.syntax_tree.specs.declared.tree.BinOp.{BinOp}
use Rattle.syntax_tree.specs.declared.tree.UnOp.{UnOp}
use Rattle.syntax_tree.specs.Grammar.{PrefixEnd, in_target, in_call, in_paren}
use Rattle.syntax_tree.specs.Operators.{operator, unary_operator}
use Rattle.syntax_tree.specs.Places.{is_named}
use Rattle.syntax_tree.specs.Types.{is_separator}
use Rattle.syntax_tree.specs.Words.{continue_name, type_name, export_name, ends_block}
use Rattle.parse_steps.specs.declared.classes.Beginning.{Beginning}
use Rattle.parse_steps.specs.declared.classes.Beginning.TheVariants as begins
use Rattle.parse_steps.specs.declared.classes.Suffix.{Suffix}
use Rattle.parse_steps.specs.declared.classes.Suffix.TheVariants as suffix
use Rattle.parse_steps.specs.declared.classes.Arguments.{Arguments}
use Rattle.parse_steps.specs.declared.classes.Arguments.TheVariants as argument
use Rattle.parse_steps.specs.declared.classes.Opening.{Opening}
use Rattle.parse_steps.specs.declared.classes.Opening.TheVariants as opens
use Rattle.parse_steps.specs.declared.levels.Level.{Level}
use Rattle.parse_steps.specs.declared.levels.Level.TheVariants as levels
use Rattle.parse_steps.specs.declared.levels.Rank.{Rank}
use Rattle.parse_steps.specs.declared.levels.Rank.TheVariants as rank
use Rattle.type_skip.specs.declared.words.Word.{Word}
use Rattle.type_skip.specs.declared.words.Word.TheVariants as word
use Rattle.parse_steps.specs.Classes as classes
use Rattle.parse_steps.specs.Items.{Item, PrefixUse, in_expression, first_target, later_target, climb}
use Rattle.parse_steps.specs.Items as item
use Rattle.parse_steps.specs.Levels.{rank_of}
use Rattle.parse_steps.specs.Turns.{Turn, turn, stops, stays, takes, word_or, name_turn, unary_turn, simple_turn, operations_turn, arguments_turn, prefix_turn, suffix_turn, parameter_turn, ending_turn, return_turn, named_stat, after_continue, after_type, after_export, after_name, block_turn, target_turn, fields_turn}
use Rattle.type_skip.specs.Words.{is_word}
use Rattle.parse_steps.proofs.Completing.{first, closing, closing_list, fits, Sound, list_closes, block_closes_list, block_closes, closes_type}

-- what a turn leaves is sound
abbrev pub Kept : Turn → Type 0
Kept stops = Unit {0}
Kept (stays u more) = Sound more
Kept (takes reach u more) = Sound more

kept_test : (b : Bool) (here other : Turn) → Kept here → Kept other → Kept (if b then here else other)
kept_test true here other h g = h
kept_test false here other h g = g

kept_word : (w : Word) (t : Option TokenKind) (here other : Turn) → Kept here → Kept other → Kept (word_or w t here other)
kept_word w t here other h g = kept_test (is_word w t) here other h g

kept_name : (o : Option StrId) (here other : Turn) → Kept here → Kept other → Kept (name_turn o here other)
kept_name (Some x) here other h g = h
kept_name None here other h g = g

-- an expression above a stack
expression_sound : (k : List Item) → IsTrue (closing (first k)) → Sound k → Sound (item.expression ∷ k)
expression_sound k c s = (c, s)

-- a list above one
list_sound : (k : List Item) → IsTrue (closing_list (first k)) → Sound k → Sound (item.expression ∷ item.list_more ∷ k)
list_sound k c s = (list_closes (first k) c, (c, s))

climb_sound : (l : Level) (k : List Item) → IsTrue (closing (first k)) → Sound k → Sound (item.unary ∷ climb l k)
climb_sound levels.Unaries k c s = (c, s)
climb_sound levels.Runs k c s = (c, (c, (c, (c, s))))
climb_sound (levels.Of rank.Products) k c s = (c, (c, s))
climb_sound (levels.Of rank.Sums) k c s = (c, (c, (c, s)))
climb_sound (levels.Of rank.Comparisons) k c s = (c, (c, (c, (c, (c, s)))))
climb_sound (levels.Of rank.Ands) k c s = (c, (c, (c, (c, (c, (c, s))))))
climb_sound (levels.Of rank.Ors) k c s = (c, (c, (c, (c, (c, (c, (c, s)))))))

unary_kept : (o : Option UnOp) (v : ℕ) (k : List Item) → IsTrue (closing (first k)) → Sound k → Kept (unary_turn o v k)
unary_kept (Some op) v k c s = (c, (refl, s))
unary_kept None v k c s = (c, (c, (c, s)))

simple_kept : (b : Beginning) (v : ℕ) (k : List Item) → IsTrue (closing (first k)) → Sound k → Kept (simple_turn b v k)
simple_kept begins.Leaf v k c s = s
simple_kept begins.Whole v k c s = s
simple_kept (begins.Pieces x) v k c s = (refl, (refl, (refl, s)))
simple_kept begins.Function v k c s = (refl, (refl, s))
simple_kept begins.Table v k c s = (refl, (refl, s))
simple_kept (begins.Name x) v k c s = (c, s)
simple_kept begins.Paren v k c s = (refl, (refl, (refl, (c, s))))
simple_kept begins.Choice v k c s = (refl, (refl, (refl, (c, (refl, s)))))
simple_kept begins.Nothing v k c s = tt

operations_kept : (o : Option BinOp) (r : Rank) (v : ℕ) (k : List Item) → IsTrue (closing (first k)) → Sound k → Kept (operations_turn o r v k)
operations_kept (Some op) r v k c s = (c, (refl, (c, s)))
operations_kept None r v k c s = s

arguments_kept : (q : Arguments) (v : ℕ) (k : List Item) → Sound k → Kept (arguments_turn q v k)
arguments_kept argument.Paren v k s = (refl, s)
arguments_kept argument.Table v k s = (refl, (refl, (refl, s)))
arguments_kept (argument.Text x) v k s = s
arguments_kept argument.Nothing v k s = tt

target_end_kept : (t : Option TokenKind) (v : ℕ) (k : List Item) → IsTrue (closing_list (first k)) → Sound k → Kept (prefix_turn first_target in_target t v k)
target_end_kept (Some token.Equal) v k c s = list_sound k c s
target_end_kept (Some token.Comma) v k c s = (c, s)
target_end_kept (Some token.PlusEqual) v k c s = (list_closes (first k) c, s)
target_end_kept (Some token.MinusEqual) v k c s = (list_closes (first k) c, s)
target_end_kept (Some token.StarEqual) v k c s = (list_closes (first k) c, s)
target_end_kept (Some token.SlashEqual) v k c s = (list_closes (first k) c, s)
target_end_kept (Some token.DoubleSlashEqual) v k c s = (list_closes (first k) c, s)
target_end_kept (Some token.PercentEqual) v k c s = (list_closes (first k) c, s)
target_end_kept (Some token.CaretEqual) v k c s = (list_closes (first k) c, s)
target_end_kept (Some token.DoubleDotEqual) v k c s = (list_closes (first k) c, s)
target_end_kept _ v k c s = tt

prefix_kept : (u : PrefixUse) (c : PrefixEnd) (t : Option TokenKind) (v : ℕ) (k : List Item) → IsTrue (fits (item.suffixes c u) (first k)) → Sound k → Kept (prefix_turn u c t v k)
prefix_kept in_expression c t v k f s = s
prefix_kept first_target in_call t v k f s = s
prefix_kept first_target in_paren t v k f s = tt
prefix_kept first_target in_target t v k f s = target_end_kept t v k f s
prefix_kept later_target in_call t v k f s = tt
prefix_kept later_target in_paren t v k f s = tt
prefix_kept later_target in_target t v k f s = kept_word word.Equal t _ _ (list_sound k f s) (kept_word word.Comma t _ _ (f, s) tt)

-- how a prefix ends does not matter
other_end : (u : PrefixUse) (c d : PrefixEnd) (t : Option TokenKind) → IsTrue (fits (item.suffixes c u) t) → IsTrue (fits (item.suffixes d u) t)
other_end in_expression c d t f = f
other_end first_target c d t f = f
other_end later_target c d t f = f

suffix_kept : (q : Suffix) (c : PrefixEnd) (u : PrefixUse) (t : Option TokenKind) (v : ℕ) (k : List Item) → IsTrue (fits (item.suffixes c u) (first k)) → Sound k → Kept (suffix_turn q c u t v k)
suffix_kept suffix.Member c u t v k f s = (refl, (refl, (other_end u c in_target (first k) f, s)))
suffix_kept suffix.Index c u t v k f s = (refl, (refl, (refl, (other_end u c in_target (first k) f, s))))
suffix_kept suffix.Method c u t v k f s = (refl, (refl, (refl, (other_end u c in_call (first k) f, s))))
suffix_kept suffix.Call c u t v k f s = arguments_kept (classes.arguments t) v (item.wrap ∷ item.suffixes in_call u ∷ k) (refl, (other_end u c in_call (first k) f, s))
suffix_kept suffix.Nothing c u t v k f s = prefix_kept u c t v k f s

fields_kept : (t : Option TokenKind) (v : ℕ) (k : List Item) → Sound k → Kept (fields_turn t v k)
fields_kept t v k s =
    kept_word word.CloseBrace t _ _ s
    (kept_word word.OpenBracket t _ _ (refl, (refl, (refl, (refl, (refl, s)))))
    (kept_name (classes.name_of t) _ _ (refl, (refl, s))
    (refl, (refl, s))))

parameter_kept : (t : Option TokenKind) (v : ℕ) (k : List Item) → Sound k → Kept (parameter_turn t v k)
parameter_kept t v k s = kept_word word.TripleDot t _ _ (refl, (refl, s)) (kept_name (classes.name_of t) _ _ (refl, (refl, s)) tt)

ending_kept : (b : Bool) (v : ℕ) (k : List Item) → Sound k → Kept (ending_turn b v k)
ending_kept true v k s = s
ending_kept false v k s = tt

return_kept : (b : Bool) (t : Option TokenKind) (v : ℕ) (k : List Item) → IsTrue (ends_block (first k)) → Sound k → Kept (return_turn b t v k)
return_kept true t v k e s = s
return_kept false t v k e s = kept_word word.Semicolon t _ _ (e, s) (list_sound (item.last_end ∷ k) (block_closes_list (first k) e) (e, s))

named_kept : (v : ℕ) (k : List Item) → IsTrue (ends_block (first k)) → Sound k → Kept (named_stat v k)
named_kept v k e s = (block_closes_list (first k) e, (refl, (e, s)))

continue_kept : (b : Bool) (t : Option TokenKind) (v : ℕ) (k : List Item) → IsTrue (ends_block (first k)) → Sound k → Kept (after_continue b t v k)
continue_kept true t v k e s = s
continue_kept false t v k e s = kept_word word.Semicolon t _ _ (e, s) (named_kept v k e s)

type_kept : (o : Option StrId) (v : ℕ) (k : List Item) → IsTrue (ends_block (first k)) → Sound k → Kept (after_type o v k)
type_kept (Some x) v k e s = (refl, (refl, (closes_type (first k) (block_closes (first k) e), (e, s))))
type_kept None v k e s = named_kept v k e s

export_kept : (b : Bool) (v : ℕ) (k : List Item) → IsTrue (ends_block (first k)) → Sound k → Kept (after_export b v k)
export_kept true v k e s = (refl, (refl, (refl, (closes_type (first k) (block_closes (first k) e), (e, s)))))
export_kept false v k e s = named_kept v k e s

after_name_kept : (x : StrId) (t : Option TokenKind) (v : ℕ) (k : List Item) → IsTrue (ends_block (first k)) → Sound k → Kept (after_name x t v k)
after_name_kept x t v k e s =
    kept_test (nat_eq x.0 continue_name.0) _ _ (continue_kept (ends_block t) t v k e s)
    (kept_test (nat_eq x.0 type_name.0) _ _ (type_kept (classes.name_of t) v k e s)
    (kept_test (nat_eq x.0 export_name.0) _ _ (export_kept (is_named type_name t) v k e s)
    (named_kept v k e s)))

block_kept : (q : Opening) (v : ℕ) (k : List Item) → IsTrue (ends_block (first k)) → Sound k → Kept (block_turn q v k)
block_kept opens.Ends v k e s = s
block_kept opens.Return v k e s = (e, s)
block_kept opens.Break v k e s = (e, s)
block_kept opens.Do v k e s = (refl, (refl, (refl, (refl, (e, s)))))
block_kept opens.While v k e s = (refl, (refl, (refl, (refl, (refl, (refl, (e, s)))))))
block_kept opens.Repeat v k e s = (refl, (refl, (block_closes (first k) e, (refl, (refl, (e, s))))))
block_kept opens.If v k e s = (refl, (refl, (refl, (refl, (refl, (refl, (e, s)))))))
block_kept opens.For v k e s = (refl, (refl, (refl, (refl, (e, s)))))
block_kept opens.Function v k e s = (refl, (refl, (refl, (refl, (e, s)))))
block_kept opens.Local v k e s = (e, s)
block_kept (opens.Name x) v k e s = (e, s)
block_kept opens.Paren v k e s = (refl, (refl, (refl, (block_closes_list (first k) e, (refl, (e, s))))))
block_kept opens.Nothing v k e s = tt

target_kept : (t : Option TokenKind) (v : ℕ) (k : List Item) → IsTrue (closing_list (first k)) → Sound k → Kept (target_turn t v k)
target_kept t v k c s = kept_word word.OpenParen t _ _ (refl, (refl, (refl, (c, (refl, s))))) (kept_name (classes.name_of t) _ _ (c, (refl, s)) tt)

-- ---- all of them

pub kept : (t : Option TokenKind) (v : ℕ) (x : Item) (k : List Item) → Sound (x ∷ k) → Kept (turn t v x k)
kept t v (item.expects w) k h = kept_word w t _ _ h.1 tt
kept t v item.a_name k h = kept_name (classes.name_of t) _ _ h.1 tt
kept t v item.a_type k h = tt
kept t v (item.level l) k h = climb_sound l (item.greater v ∷ k) h.0 (refl, h.1)
kept t v item.unary k h = unary_kept (unary_operator t) v k h.0 h.1
kept t v item.simple k h = simple_kept (classes.beginning t) v k h.0 h.1
kept t v item.cast k h = kept_word word.DoubleColon t _ _ (closes_type (first k) h.0, (refl, h.1)) h.1
kept t v item.power k h = kept_word word.Caret t _ _ (h.0, (refl, h.1)) h.1
kept t v (item.operations r) k h = operations_kept (operator (rank_of r) t) r v k h.0 h.1
kept t v item.run k h = kept_word word.DoubleDot t _ _ (h.0, (h.0, (refl, h.1))) h.1
kept t v item.run_more k h = kept_word word.DoubleDot t _ _ (h.0, (h.0, h.1)) h.1
kept t v item.list_more k h = kept_word word.Comma t _ _ (list_sound k h.0 h.1) h.1
kept t v item.pieces k h = kept_name (classes.middle_of t) _ _ (refl, (refl, h.1)) (kept_name (classes.end_of t) _ _ h.1 tt)
kept t v item.choice_more k h = kept_word word.ElseIf t _ _ (refl, (refl, (refl, (h.0, h.1)))) (kept_word word.Else t _ _ (h.0, h.1) tt)
kept t v (item.suffixes c u) k h = suffix_kept (classes.suffix t) c u t v k h.0 h.1
kept t v item.arguments k h = arguments_kept (classes.arguments t) v k h.1
kept t v item.argument_list k h = kept_word word.CloseParen t _ _ h.1 (refl, (refl, (refl, h.1)))
kept t v item.fields k h = fields_kept t v k h.1
kept t v item.field_name k h = kept_word word.Equal t _ _ (h.0, h.1) (h.0, (h.0, (h.0, (h.0, (h.0, (h.0, (h.0, (h.0, (h.0, (refl, h.1))))))))))
kept t v item.field_end k h = kept_test (is_separator t) _ _ (refl, h.1) (kept_word word.CloseBrace t _ _ h.1 tt)
kept t v item.body k h = (refl, (refl, (refl, (refl, (refl, (refl, h.1))))))
kept t v item.parameters k h = kept_word word.CloseParen t _ _ h.1 (parameter_kept t v k h.1)
kept t v item.parameter k h = parameter_kept t v k h.1
kept t v item.parameter_more k h = kept_word word.Comma t _ _ (refl, h.1) (kept_word word.CloseParen t _ _ h.1 tt)
kept t v item.typing k h = kept_word word.Colon t _ _ (closes_type (first k) h.0, h.1) h.1
kept t v item.generics k h = kept_word word.Less t _ _ (refl, h.1) h.1
kept t v item.generic k h = kept_name (classes.name_of t) _ _ (refl, h.1) tt
kept t v item.generic_dots k h = kept_word word.TripleDot t _ _ (refl, h.1) (refl, h.1)
kept t v item.generic_default k h = kept_word word.Equal t _ _ (refl, (refl, h.1)) (refl, h.1)
kept t v item.generic_more k h = kept_word word.Comma t _ _ (refl, h.1) (kept_word word.Greater t _ _ h.1 tt)
kept t v item.block k h = block_kept (classes.opening t) v k h.0 h.1
kept t v item.stat_end k h = kept_word word.Semicolon t _ _ (h.0, h.1) (h.0, h.1)
kept t v item.return_list k h = return_kept (ends_block t) t v k h.0 h.1
kept t v item.last_end k h = kept_word word.Semicolon t _ _ (h.0, h.1) (ending_kept (ends_block t) v k h.1)
kept t v item.block_end k h = ending_kept (ends_block t) v k h.1
kept t v (item.after_name x) k h = after_name_kept x t v k h.0 h.1
kept t v item.target k h = target_kept t v k h.0 h.1
kept t v item.local_what k h = kept_word word.Function t _ _ (refl, (refl, (refl, (refl, (h.0, h.1))))) (block_closes (first k) h.0, (block_closes_list (first k) h.0, (h.0, (h.0, h.1))))
kept t v item.local_values k h = kept_word word.Equal t _ _ (list_sound k (block_closes_list (first k) h.0) h.1) h.1
kept t v item.bind k h = kept_name (classes.name_of t) _ _ (h.0, h.1) tt
kept t v item.bind_more k h = kept_word word.Comma t _ _ (list_closes (first k) h.0, (h.0, h.1)) h.1
kept t v item.for_what k h = kept_word word.Equal t _ _ (refl, (refl, (refl, (refl, (refl, (refl, (refl, h.1))))))) (refl, (refl, (refl, (refl, (refl, (refl, (refl, h.1)))))))
kept t v item.for_step k h = kept_word word.Comma t _ _ (list_closes (first k) h.0, h.1) h.1
kept t v item.members k h = kept_word word.Dot t _ _ (refl, (refl, (h.0, h.1))) (kept_word word.Colon t _ _ (refl, (refl, h.1)) h.1)
kept t v item.assigned_function k h = (refl, (refl, (refl, h.1)))
kept t v item.arm_more k h = kept_word word.ElseIf t _ _ (refl, (refl, (refl, (refl, h.1)))) (kept_word word.Else t _ _ (refl, (refl, h.1)) (kept_word word.End t _ _ h.1 tt))
kept t v item.wrap k h = h.1
kept t v (item.greater w) k h = h.1
