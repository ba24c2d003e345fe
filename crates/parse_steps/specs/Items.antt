-- What is still to be read: a stack of items, the next one first.
use Rattle.std.specs.Prelude.{ℕ, suc, List, [], ◌∷◌}
use Rattle.byte_text.specs.declared.StrId.{StrId}
use Rattle.syntax_tree.specs.Grammar.{PrefixEnd}
use Rattle.type_skip.specs.declared.words.Word.{Word}
use Rattle.parse_steps.specs.declared.levels.Rank.{Rank}
use Rattle.parse_steps.specs.declared.levels.Rank.TheVariants as rank
use Rattle.parse_steps.specs.declared.levels.Level.{Level}
use Rattle.parse_steps.specs.declared.levels.Level.TheVariants as levels

-- what a prefix is read as: an expression, the first part of a statement, or a further target of an assignment
pub data PrefixUse : Type 0 where
  in_expression : PrefixUse
  first_target : PrefixUse
  later_target : PrefixUse

pub data Item : Type 0 where
  -- this word
  expects : Word → Item
  -- a name
  a_name : Item
  -- a type
  a_type : Item
  -- an expression of a level
  level : Level → Item
  -- an expression without binary operators
  unary : Item
  -- the beginning of one, without a cast and a power
  simple : Item
  -- what may follow: "::" and a type; "^" and an expression; operators of a rank with what stands behind them
  cast : Item
  power : Item
  operations : Rank → Item
  -- "..", where a run may begin, and where one goes on
  run : Item
  run_more : Item
  -- further expressions of a list, each behind a ","
  list_more : Item
  -- behind an expression of an interpolated string
  pieces : Item
  -- behind a value of an `if` expression
  choice_more : Item
  -- behind a part of a prefix, which ends so
  suffixes : PrefixEnd → PrefixUse → Item
  -- arguments of a call; what is behind their "("
  arguments : Item
  argument_list : Item
  -- behind the "{" or a separator of a table; behind a name there; behind a field
  fields : Item
  field_name : Item
  field_end : Item
  -- behind the word `function` and its name
  body : Item
  -- parameters, to the ")"; one of them; behind it
  parameters : Item
  parameter : Item
  parameter_more : Item
  -- [":" type]
  typing : Item
  -- ["<" generics ">"]; one of them; behind its name; behind its "..."; behind its default
  generics : Item
  generic : Item
  generic_dots : Item
  generic_default : Item
  generic_more : Item
  -- a block, and what is behind a statement
  block : Item
  stat_end : Item
  -- behind `return`; behind a last statement; the end of the block
  return_list : Item
  last_end : Item
  block_end : Item
  -- behind a name that begins a statement
  after_name : StrId → Item
  -- a further target of an assignment
  target : Item
  -- behind `local`; behind the names there
  local_what : Item
  local_values : Item
  -- a name with a type or without; further ones, each behind a ","
  bind : Item
  bind_more : Item
  -- behind the first name of a `for`; behind the limit of one
  for_what : Item
  for_step : Item
  -- behind the first name of a function's name; the function that is assigned to it
  members : Item
  assigned_function : Item
  -- behind the block of an arm
  arm_more : Item
  -- a node is around what was read last; something was read before it whose nodes nest so deep
  wrap : Item
  greater : ℕ → Item

-- how many nodes are around what is read next
abbrev pub depth : List Item → ℕ
depth [] = 0
depth (wrap ∷ k) = suc (depth k)
depth (_ ∷ k) = depth k

-- what follows the operand without binary operators that begins an expression of a level
abbrev pub climb : Level → List Item → List Item
climb levels.Unaries k = k
climb (levels.Of rank.Products) k = operations rank.Products ∷ k
climb (levels.Of rank.Sums) k = operations rank.Products ∷ operations rank.Sums ∷ k
climb levels.Runs k = operations rank.Products ∷ operations rank.Sums ∷ run ∷ k
climb (levels.Of rank.Comparisons) k = operations rank.Products ∷ operations rank.Sums ∷ run ∷ operations rank.Comparisons ∷ k
climb (levels.Of rank.Ands) k = operations rank.Products ∷ operations rank.Sums ∷ run ∷ operations rank.Comparisons ∷ operations rank.Ands ∷ k
climb (levels.Of rank.Ors) k = operations rank.Products ∷ operations rank.Sums ∷ run ∷ operations rank.Comparisons ∷ operations rank.Ands ∷ operations rank.Ors ∷ k

abbrev pub expression : Item
expression = level (levels.Of rank.Ors)
