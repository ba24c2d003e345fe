-- What one token does to the stack of what is still to be read.
--
-- `v` is how deep the nodes nest in what was read last: in the left part of a node, or in the parts of a node or list so far.
use Rattle.std.specs.Prelude.{ℕ, suc, ◌+◌, max, Bool, true, false, nat_eq, if◌then◌else◌, List, ◌∷◌, Option, Some, None}
use Rattle.byte_text.specs.declared.StrId.{StrId}
use Rattle.syntax_tree.specs.declared.token.TokenKind.{TokenKind}
use Rattle.syntax_tree.specs.declared.tree.BinOp.{BinOp}
use Rattle.syntax_tree.specs.declared.tree.UnOp.{UnOp}
use Rattle.syntax_tree.specs.Grammar.{PrefixEnd, in_target, in_call, in_paren}
use Rattle.syntax_tree.specs.Operators.{operator, unary_operator, compound_operator}
use Rattle.syntax_tree.specs.Places.{is_named}
use Rattle.syntax_tree.specs.Types.{is_separator}
use Rattle.syntax_tree.specs.Words.{continue_name, type_name, export_name, ends_block}
use Rattle.parse_steps.specs.declared.classes.Beginning.{Beginning}
use Rattle.parse_steps.specs.declared.classes.Beginning.TheVariants as begins
use Rattle.parse_steps.specs.declared.classes.Suffix.{Suffix}
use Rattle.parse_steps.specs.declared.classes.Suffix.TheVariants as suffix
use Rattle.parse_steps.specs.declared.classes.Arguments.{Arguments}
use Rattle.parse_steps.specs.declared.classes.Arguments.TheVariants as argument
use Rattle.parse_steps.specs.declared.classes.Opening.{Opening}
use Rattle.parse_steps.specs.declared.classes.Opening.TheVariants as opens
use Rattle.parse_steps.specs.declared.levels.Level.TheVariants as levels
use Rattle.parse_steps.specs.declared.levels.Rank.{Rank}
use Rattle.parse_steps.specs.declared.levels.Rank.TheVariants as rank
use Rattle.type_skip.specs.declared.words.Word.{Word}
use Rattle.type_skip.specs.declared.words.Word.TheVariants as word
use Rattle.parse_steps.specs.Classes as classes
use Rattle.parse_steps.specs.Items.{PrefixUse, in_expression, first_target, later_target, Item, depth, climb, expression}
use Rattle.parse_steps.specs.Items as item
use Rattle.parse_steps.specs.Levels.{rank_of, next}
use Rattle.type_skip.specs.Words.{is_word}

pub data Turn : Type 0 where
  -- the token cannot stand here
  stops : Turn
  -- the token is not taken yet
  stays : (nest : ℕ) (todo : List Item) → Turn
  -- The token is taken. Where it opens a node, so many nodes are around each other there, this one included; else 0.
  takes : (reach nest : ℕ) (todo : List Item) → Turn

-- ---- words and names

-- this word is taken and leads to a turn's stack; else another turn
abbrev pub word_or : Word → Option TokenKind → Turn → Turn → Turn
word_or w t here other = if is_word w t then here else other

abbrev pub name_turn : Option StrId → Turn → Turn → Turn
name_turn (Some x) here other = here
name_turn None here other = other

-- ---- expressions

-- one node deeper than the left part, and than what is around
abbrev pub next_reach : ℕ → List Item → ℕ
next_reach v k = depth k + suc v

abbrev pub unary_turn : Option UnOp → ℕ → List Item → Turn
unary_turn (Some op) v k = takes (next_reach v k) v (item.unary ∷ item.wrap ∷ k)
unary_turn None v k = stays v (item.simple ∷ item.cast ∷ item.power ∷ k)

abbrev pub simple_turn : Beginning → ℕ → List Item → Turn
simple_turn begins.Leaf v k = takes 0 v k
simple_turn begins.Whole v k = takes (next_reach v k) (suc v) k
simple_turn (begins.Pieces x) v k = takes (next_reach v k) v (expression ∷ item.pieces ∷ item.wrap ∷ k)
simple_turn begins.Function v k = takes (next_reach v k) v (item.body ∷ item.wrap ∷ k)
simple_turn begins.Table v k = takes (next_reach v k) v (item.fields ∷ item.wrap ∷ k)
simple_turn (begins.Name x) v k = takes 0 v (item.suffixes in_target in_expression ∷ k)
simple_turn begins.Paren v k = takes (next_reach v k) v (expression ∷ item.expects word.CloseParen ∷ item.wrap ∷ item.suffixes in_paren in_expression ∷ k)
simple_turn begins.Choice v k = takes (next_reach v k) v (expression ∷ item.expects word.Then ∷ expression ∷ item.choice_more ∷ item.wrap ∷ k)
simple_turn begins.Nothing v k = stops

abbrev pub operations_turn : Option BinOp → Rank → ℕ → List Item → Turn
operations_turn (Some op) r v k = takes (next_reach v k) v (item.level (next r) ∷ item.wrap ∷ item.operations r ∷ k)
operations_turn None r v k = stays v k

abbrev pub arguments_turn : Arguments → ℕ → List Item → Turn
arguments_turn argument.Paren v k = takes (depth k + v) v (item.argument_list ∷ k)
arguments_turn argument.Table v k = takes (max (depth k + v) (next_reach 0 k)) 0 (item.fields ∷ item.wrap ∷ item.greater v ∷ k)
arguments_turn (argument.Text x) v k = takes (depth k + v) v k
arguments_turn argument.Nothing v k = stops

-- what is behind a prefix: where it is an expression, nothing of its own
abbrev pub prefix_turn : PrefixUse → PrefixEnd → Option TokenKind → ℕ → List Item → Turn
prefix_turn in_expression c t v k = stays v k
prefix_turn first_target in_call t v k = stays v k
prefix_turn first_target in_paren t v k = stops
prefix_turn first_target in_target t v k = word_or word.Equal t (takes 0 v (expression ∷ item.list_more ∷ k)) (word_or word.Comma t (takes 0 v (item.target ∷ k)) (compound (compound_operator t)))
  where
    compound : Option BinOp → Turn
    compound (Some op) = takes 0 v (expression ∷ k)
    compound None = stops
prefix_turn later_target in_call t v k = stops
prefix_turn later_target in_paren t v k = stops
prefix_turn later_target in_target t v k = word_or word.Equal t (takes 0 v (expression ∷ item.list_more ∷ k)) (word_or word.Comma t (takes 0 v (item.target ∷ k)) stops)

abbrev pub suffix_turn : Suffix → PrefixEnd → PrefixUse → Option TokenKind → ℕ → List Item → Turn
suffix_turn suffix.Member c u t v k = takes (next_reach v k) v (item.a_name ∷ item.wrap ∷ item.suffixes in_target u ∷ k)
suffix_turn suffix.Index c u t v k = takes (next_reach v k) v (expression ∷ item.expects word.CloseBracket ∷ item.wrap ∷ item.suffixes in_target u ∷ k)
suffix_turn suffix.Method c u t v k = takes (next_reach v k) v (item.a_name ∷ item.arguments ∷ item.wrap ∷ item.suffixes in_call u ∷ k)
suffix_turn suffix.Call c u t v k = arguments_turn (classes.arguments t) v (item.wrap ∷ item.suffixes in_call u ∷ k)
suffix_turn suffix.Nothing c u t v k = prefix_turn u c t v k

-- an expression that begins with a name, which was taken
abbrev pub named_expression : ℕ → List Item → Turn
named_expression v k = stays 0 (item.suffixes in_target in_expression ∷ item.cast ∷ item.power ∷ climb (levels.Of rank.Ors) (item.greater v ∷ k))

abbrev pub fields_turn : Option TokenKind → ℕ → List Item → Turn
fields_turn t v k =
    word_or word.CloseBrace t (takes 0 v k)
    (word_or word.OpenBracket t (takes 0 v (expression ∷ item.expects word.CloseBracket ∷ item.expects word.Equal ∷ expression ∷ item.field_end ∷ k))
    (name_turn (classes.name_of t) (takes 0 v (item.field_name ∷ item.field_end ∷ k))
    (stays v (expression ∷ item.field_end ∷ k))))

-- ---- functions

abbrev pub parameter_turn : Option TokenKind → ℕ → List Item → Turn
parameter_turn t v k =
    word_or word.TripleDot t (takes 0 v (item.typing ∷ item.expects word.CloseParen ∷ k))
    (name_turn (classes.name_of t) (takes 0 v (item.typing ∷ item.parameter_more ∷ k)) stops)

-- ---- statements

abbrev pub ending_turn : Bool → ℕ → List Item → Turn
ending_turn true v k = stays v k
ending_turn false v k = stops

abbrev pub last_turn : Option TokenKind → ℕ → List Item → Turn
last_turn t v k = word_or word.Semicolon t (takes 0 v (item.block_end ∷ k)) (ending_turn (ends_block t) v k)

abbrev pub return_turn : Bool → Option TokenKind → ℕ → List Item → Turn
return_turn true t v k = stays v k
return_turn false t v k = word_or word.Semicolon t (takes 0 v (item.block_end ∷ k)) (stays v (expression ∷ item.list_more ∷ item.last_end ∷ k))

-- a statement whose node is around its parts
abbrev pub node_turn : ℕ → List Item → (List Item → List Item) → Turn
node_turn v k parts = takes (next_reach 0 k) 0 (parts (item.wrap ∷ item.greater v ∷ item.stat_end ∷ k))

-- a statement that begins with a name, which was taken
abbrev pub named_stat : ℕ → List Item → Turn
named_stat v k = stays 0 (item.suffixes in_target first_target ∷ item.greater v ∷ item.stat_end ∷ k)

-- the definition of a type, behind its words
abbrev pub type_items : List Item → List Item
type_items k = item.generics ∷ item.expects word.Equal ∷ item.a_type ∷ item.stat_end ∷ k

abbrev pub after_continue : Bool → Option TokenKind → ℕ → List Item → Turn
after_continue true t v k = stays v k
after_continue false t v k = word_or word.Semicolon t (takes 0 v (item.block_end ∷ k)) (named_stat v k)

abbrev pub after_type : Option StrId → ℕ → List Item → Turn
after_type (Some x) v k = takes 0 v (type_items k)
after_type None v k = named_stat v k

abbrev pub after_export : Bool → ℕ → List Item → Turn
after_export true v k = takes 0 v (item.a_name ∷ type_items k)
after_export false v k = named_stat v k

abbrev pub after_name : StrId → Option TokenKind → ℕ → List Item → Turn
after_name x t v k =
    if nat_eq x.0 continue_name.0 then after_continue (ends_block t) t v k
    else if nat_eq x.0 type_name.0 then after_type (classes.name_of t) v k
    else if nat_eq x.0 export_name.0 then after_export (is_named type_name t) v k
    else named_stat v k

abbrev pub block_turn : Opening → ℕ → List Item → Turn
block_turn opens.Ends v k = stays v k
block_turn opens.Return v k = takes 0 v (item.return_list ∷ k)
block_turn opens.Break v k = takes 0 v (item.last_end ∷ k)
block_turn opens.Do v k = node_turn v k (λ more. item.block ∷ item.expects word.End ∷ more)
block_turn opens.While v k = node_turn v k (λ more. expression ∷ item.expects word.Do ∷ item.block ∷ item.expects word.End ∷ more)
block_turn opens.Repeat v k = node_turn v k (λ more. item.block ∷ item.expects word.Until ∷ expression ∷ more)
block_turn opens.If v k = node_turn v k (λ more. expression ∷ item.expects word.Then ∷ item.block ∷ item.arm_more ∷ more)
block_turn opens.For v k = node_turn v k (λ more. item.bind ∷ item.for_what ∷ more)
block_turn opens.Function v k = takes (next_reach 0 k) 0 (item.a_name ∷ item.members ∷ item.assigned_function ∷ item.greater v ∷ item.stat_end ∷ k)
block_turn opens.Local v k = takes 0 v (item.local_what ∷ k)
block_turn (opens.Name x) v k = takes 0 v (item.after_name x ∷ k)
block_turn opens.Paren v k = takes (next_reach 0 k) 0 (expression ∷ item.expects word.CloseParen ∷ item.wrap ∷ item.suffixes in_paren first_target ∷ item.greater v ∷ item.stat_end ∷ k)
block_turn opens.Nothing v k = stops

abbrev pub target_turn : Option TokenKind → ℕ → List Item → Turn
target_turn t v k =
    word_or word.OpenParen t (takes (next_reach 0 k) 0 (expression ∷ item.expects word.CloseParen ∷ item.wrap ∷ item.suffixes in_paren later_target ∷ item.greater v ∷ k))
    (name_turn (classes.name_of t) (takes 0 0 (item.suffixes in_target later_target ∷ item.greater v ∷ k)) stops)

-- ---- all of them

abbrev pub turn : Option TokenKind → ℕ → Item → List Item → Turn
turn t v (item.expects w) k = word_or w t (takes 0 v k) stops
turn t v item.a_name k = name_turn (classes.name_of t) (takes 0 v k) stops
turn t v item.a_type k = stops
turn t v (item.level l) k = stays 0 (item.unary ∷ climb l (item.greater v ∷ k))
turn t v item.unary k = unary_turn (unary_operator t) v k
turn t v item.simple k = simple_turn (classes.beginning t) v k
turn t v item.cast k = word_or word.DoubleColon t (takes (next_reach v k) v (item.a_type ∷ item.wrap ∷ k)) (stays v k)
turn t v item.power k = word_or word.Caret t (takes (next_reach v k) v (item.level levels.Unaries ∷ item.wrap ∷ k)) (stays v k)
turn t v (item.operations r) k = operations_turn (operator (rank_of r) t) r v k
turn t v item.run k = word_or word.DoubleDot t (takes (next_reach v k) v (item.level (levels.Of rank.Sums) ∷ item.run_more ∷ item.wrap ∷ k)) (stays v k)
turn t v item.run_more k = word_or word.DoubleDot t (takes 0 v (item.level (levels.Of rank.Sums) ∷ item.run_more ∷ k)) (stays v k)
turn t v item.list_more k = word_or word.Comma t (takes 0 v (expression ∷ item.list_more ∷ k)) (stays v k)
turn t v item.pieces k = name_turn (classes.middle_of t) (takes 0 v (expression ∷ item.pieces ∷ k)) (name_turn (classes.end_of t) (takes 0 v k) stops)
turn t v item.choice_more k = word_or word.ElseIf t (takes 0 v (expression ∷ item.expects word.Then ∷ expression ∷ item.choice_more ∷ k)) (word_or word.Else t (takes 0 v (expression ∷ k)) stops)
turn t v (item.suffixes c u) k = suffix_turn (classes.suffix t) c u t v k
turn t v item.arguments k = arguments_turn (classes.arguments t) v k
turn t v item.argument_list k = word_or word.CloseParen t (takes 0 v k) (stays v (expression ∷ item.list_more ∷ item.expects word.CloseParen ∷ k))
turn t v item.fields k = fields_turn t v k
turn t v item.field_name k = word_or word.Equal t (takes 0 v (expression ∷ k)) (named_expression v k)
turn t v item.field_end k = if is_separator t then takes 0 v (item.fields ∷ k) else word_or word.CloseBrace t (takes 0 v k) stops
turn t v item.body k = stays v (item.generics ∷ item.expects word.OpenParen ∷ item.parameters ∷ item.typing ∷ item.block ∷ item.expects word.End ∷ k)
turn t v item.parameters k = word_or word.CloseParen t (takes 0 v k) (parameter_turn t v k)
turn t v item.parameter k = parameter_turn t v k
turn t v item.parameter_more k = word_or word.Comma t (takes 0 v (item.parameter ∷ k)) (word_or word.CloseParen t (takes 0 v k) stops)
turn t v item.typing k = word_or word.Colon t (takes 0 v (item.a_type ∷ k)) (stays v k)
turn t v item.generics k = word_or word.Less t (takes 0 v (item.generic ∷ k)) (stays v k)
turn t v item.generic k = name_turn (classes.name_of t) (takes 0 v (item.generic_dots ∷ k)) stops
turn t v item.generic_dots k = word_or word.TripleDot t (takes 0 v (item.generic_default ∷ k)) (stays v (item.generic_default ∷ k))
turn t v item.generic_default k = word_or word.Equal t (takes 0 v (item.a_type ∷ item.generic_more ∷ k)) (stays v (item.generic_more ∷ k))
turn t v item.generic_more k = word_or word.Comma t (takes 0 v (item.generic ∷ k)) (word_or word.Greater t (takes 0 v k) stops)
turn t v item.block k = block_turn (classes.opening t) v k
turn t v item.stat_end k = word_or word.Semicolon t (takes 0 v (item.block ∷ k)) (stays v (item.block ∷ k))
turn t v item.return_list k = return_turn (ends_block t) t v k
turn t v item.last_end k = last_turn t v k
turn t v item.block_end k = ending_turn (ends_block t) v k
turn t v (item.after_name x) k = after_name x t v k
turn t v item.target k = target_turn t v k
turn t v item.local_what k = word_or word.Function t (takes (next_reach 0 k) 0 (item.a_name ∷ item.body ∷ item.wrap ∷ item.greater v ∷ item.stat_end ∷ k)) (stays v (item.bind ∷ item.bind_more ∷ item.local_values ∷ item.stat_end ∷ k))
turn t v item.local_values k = word_or word.Equal t (takes 0 v (expression ∷ item.list_more ∷ k)) (stays v k)
turn t v item.bind k = name_turn (classes.name_of t) (takes 0 v (item.typing ∷ k)) stops
turn t v item.bind_more k = word_or word.Comma t (takes 0 v (item.bind ∷ item.bind_more ∷ k)) (stays v k)
turn t v item.for_what k = word_or word.Equal t (takes 0 v (expression ∷ item.expects word.Comma ∷ expression ∷ item.for_step ∷ item.expects word.Do ∷ item.block ∷ item.expects word.End ∷ k)) (stays v (item.bind_more ∷ item.expects word.In ∷ expression ∷ item.list_more ∷ item.expects word.Do ∷ item.block ∷ item.expects word.End ∷ k))
turn t v item.for_step k = word_or word.Comma t (takes 0 v (expression ∷ k)) (stays v k)
turn t v item.members k = word_or word.Dot t (takes (next_reach v k) v (item.a_name ∷ item.wrap ∷ item.members ∷ k)) (word_or word.Colon t (takes (next_reach v k) v (item.a_name ∷ item.wrap ∷ k)) (stays v k))
turn t v item.assigned_function k = stays 0 (item.body ∷ item.wrap ∷ item.greater v ∷ k)
turn t v item.arm_more k = word_or word.ElseIf t (takes 0 v (expression ∷ item.expects word.Then ∷ item.block ∷ item.arm_more ∷ k)) (word_or word.Else t (takes 0 v (item.block ∷ item.expects word.End ∷ k)) (word_or word.End t (takes 0 v k) stops))
turn t v item.wrap k = stays (suc v) k
turn t v (item.greater w) k = stays (max w v) k
