-- Of the crate's own functions: what the methods that read statements find.
use Rattle.std.specs.Prelude.{◌≡◌, ◌≢◌, ℕ, ◌+◌, ◌<◌, ◌≤◌, max, Bool, ◌&&◌, ◌||◌, nat_eq, IsTrue, IsFalse, List, [], ◌∷◌, Option, Some, None, Result, Ok, Err, ◌⊎◌}
use Rattle.byte_text.specs.declared.StrId.{StrId}
use Rattle.syntax_tree.specs.declared.token.Token.{Token}
use Rattle.syntax_tree.specs.declared.token.TokenKind.{TokenKind}
use Rattle.syntax_tree.specs.declared.token.TokenKind.TheVariants as token
use Rattle.syntax_tree.specs.declared.tree.Expr.{Expr}
use Rattle.syntax_tree.specs.declared.tree.ExprKind as expr
use Rattle.syntax_tree.specs.declared.tree.Stat.{Stat}
use Rattle.syntax_tree.specs.declared.tree.StatKind as stat
use Rattle.syntax_tree.specs.Grammar.{PrefixEnd, in_target, in_call, in_paren, IsExpr, IsList, IsFunctionName, IsPrefix, IsSuffixes, IsTargets, IsBlock, IsLast, IsStat, IsTypeStat, IsArms}
use Rattle.syntax_tree.specs.Grammar as grammar
use Rattle.syntax_tree.specs.Places.{kind_at, is_name, is_named, Has, Lacks, Optional}
use Rattle.syntax_tree.specs.Types.{IsType, IsGenerics}
use Rattle.syntax_tree.specs.Nodes.{expr_at, stat_at, function_at}
use Rattle.syntax_tree.specs.Words.{self_name, continue_name, type_name, export_name, ends_block, opens_type, is_continue}
use Rattle.type_skip.specs.declared.words.Word.TheVariants as words
use Rattle.parse_steps.specs.Classes.{suffix, opening}
use Rattle.type_skip.specs.Words.{is_word}
use Rattle.parse_steps.specs.declared.classes.Opening.TheVariants as opens
use Rattle.parse_steps.specs.declared.classes.Suffix.TheVariants as suffix_class
use Rattle.parse_steps.specs.Items as item
use Rattle.parse_steps.specs.Items.{Item, depth}
use Rattle.parse_steps.specs.Steps.{most, Leads}
use Rattle.expression_parser.specs.declared.fault.Fault.{Fault}
use Rattle.expression_parser.specs.declared.fault.Fault.TheVariants as fault
use Rattle.expression_parser.specs.declared.parts.Part.{Part}
use Rattle.expression_parser.specs.declared.parts.Parts.{Parts}
use Rattle.expression_parser.specs.declared.parts.Prefix.{Prefix}
use Rattle.expression_parser.specs.declared.parts.Block.{Block}
use Rattle.expression_parser.specs.declared.parts.Function.{Function}
use Rattle.luau_parser.specs.declared.parts.Statement.{Statement}
use Rattle.luau_parser.specs.declared.parts.Step.{Step}
use Rattle.luau_parser.specs.declared.parts.Step.TheVariants as step
use Rattle.luau_parser.specs.declared.parts.FunctionName.{FunctionName}
use Rattle.luau_parser.specs.declared.parts.Arms.{Arms}
use Rattle.luau_parser.specs.declared.parts.Guarded.{Guarded}
use Rattle.luau_parser.specs.declared.parts.Otherwise.{Otherwise}
use Rattle.luau_parser.specs.declared.parts.Limits.{Limits}
use Rattle.luau_parser.specs.declared.parts.Count.{Count}
use Rattle.luau_parser.specs.declared.parts.Walk.{Walk}
use Rattle.expression_parser.specs.Reading.{Fails, Finds, FindsName, FindsShallow, from_item, to_greater, Within, ending_of}

-- ---- a whole statement, from the block's item to what is behind it

abbrev pub FindsStat : List Token → (room i : ℕ) → Result Statement Fault → Type 0
FindsStat ts room i = Finds ts room i (from_item item.block) (λ (s : Statement). IsStat ts most i s.stat s.end × Within room i s.nest s.end) (λ (s : Statement). s.end) (λ (s : Statement) v k. (max v s.nest, item.stat_end ∷ k))

-- neither a name nor what ends a block, `return` or `break`
abbrev pub IsNoName : List Token → (i : ℕ) → Type 0
IsNoName ts i = (opening (kind_at ts i) ≢ opens.Ends) × (opening (kind_at ts i) ≢ opens.Return) × (opening (kind_at ts i) ≢ opens.Break) × ((x : StrId) → opening (kind_at ts i) ≢ opens.Name x)

-- the last statement of a block, with a `;` or none, up to the end of the block
abbrev pub IsLastAt : List Token → (i : ℕ) → Stat → (end : ℕ) → Type 0
IsLastAt ts i s end = (j : ℕ) × IsLast ts most i s j × Optional ts token.Semicolon j end × IsTrue (ends_block (kind_at ts end))

abbrev pub FindsLast : List Token → (room i : ℕ) → Result Statement Fault → Type 0
FindsLast ts room i = Finds ts room i (from_item item.block) (λ (s : Statement). IsLastAt ts i s.stat s.end × Within room i s.nest s.end) (λ (s : Statement). s.end) (λ (s : Statement). to_greater s.nest)

-- behind a `;`, where one stands
abbrev pub IsBehindSemicolon : List Token → (i j : ℕ) → Type 0
IsBehindSemicolon ts i j = Optional ts token.Semicolon i j × (i ≤ j)

-- a token that may follow a last statement
abbrev pub may_end : Option TokenKind → Bool
may_end t = ends_block t || is_word words.Semicolon t

-- a name, with this token behind it, that begins neither `continue` nor the definition of a type
pub record IsPlainName (x : StrId) (t : Option TokenKind) : Type 0 where
  pub continues : IsFalse (nat_eq x.0 continue_name.0 && may_end t)
  pub types : IsFalse (nat_eq x.0 type_name.0 && is_name t)
  pub exports : IsFalse (nat_eq x.0 export_name.0 && is_named type_name t)

-- the end of a block behind its last statement
abbrev pub FindsLastEnd : List Token → (i : ℕ) → Result ℕ Fault → Type 0
FindsLastEnd ts i = FindsShallow ts i (λ k. item.last_end ∷ k) (λ j. Optional ts token.Semicolon i j × IsTrue (ends_block (kind_at ts j)) × (i ≤ j)) (λ j. j)

-- the definition of a type behind its name
abbrev pub IsTypeRest : List Token → (i j : ℕ) → Type 0
IsTypeRest ts i j = (h : ℕ) × IsGenerics ts most i h × Has ts h token.Equal × IsType ts most (h + 1) j

abbrev pub FindsTypeRest : List Token → (i : ℕ) → Result ℕ Fault → Type 0
FindsTypeRest ts i = FindsShallow ts i (λ k. item.generics ∷ item.expects words.Equal ∷ item.a_type ∷ k) (λ j. IsTypeRest ts i j × (i < j)) (λ j. j)

-- what a block goes on with
abbrev pub IsStep : List Token → (room i : ℕ) → Step → Type 0
IsStep ts room i step.Ends = IsTrue (ends_block (kind_at ts i))
IsStep ts room i (step.Types end) = (IsTrue (opens_type ts i) × ((j : ℕ) × IsTypeStat ts most i j × Optional ts token.Semicolon j end)) × (i < end)
IsStep ts room i (step.Stat s) = (IsFalse (opens_type ts i) × IsFalse (is_continue ts i) × ((j : ℕ) × IsStat ts most i s.stat j × Optional ts token.Semicolon j s.end)) × Within room i s.nest s.end
IsStep ts room i (step.Last s) = IsLastAt ts i s.stat s.end × Within room i s.nest s.end

abbrev pub end_of_step : ℕ → Step → ℕ
end_of_step i step.Ends = i
end_of_step i (step.Types end) = end
end_of_step i (step.Stat s) = s.end
end_of_step i (step.Last s) = s.end

abbrev pub after_step : Step → ℕ → List Item → ℕ × List Item
after_step step.Ends v k = (v, k)
after_step (step.Types end) v k = (v, item.block ∷ k)
after_step (step.Stat s) v k = (max v s.nest, item.block ∷ k)
after_step (step.Last s) v k = (max v s.nest, k)

abbrev pub FindsStep : List Token → (room i : ℕ) → Result Step Fault → Type 0
FindsStep ts room i = Finds ts room i (from_item item.block) (IsStep ts room i) (end_of_step i) after_step

-- ---- a call or an assignment behind its first prefix

-- a whole prefix that begins at place b and ends so
pub record IsPrefixRead (ts : List Token) (room b : ℕ) (p : Part) (c : PrefixEnd) : Type 0 where
  pub prefix : IsPrefix ts most b p.expr c p.end
  pub whole : suffix (kind_at ts p.end) ≡ suffix_class.Nothing
  pub nest : p.nest ≤ room
  pub onward : b < p.end

abbrev pub FindsPrefixStat : List Token → (room b : ℕ) → Part → PrefixEnd → Result Statement Fault → Type 0
FindsPrefixStat ts room b p c = Finds ts room p.end (λ v k. (p.nest, item.suffixes c item.first_target ∷ k)) (λ (s : Statement). IsStat ts most b s.stat s.end × Within room b s.nest s.end) (λ (s : Statement). s.end) (λ (s : Statement) v k. (s.nest, k))

-- what is behind all targets of an assignment, the first of which was read: the values, and behind these the greatest nest of all
pub record LeadsToValues (ts : List Token) (p : Part) (targets : Parts) (k : List Item) : Type 0 where
  pub nest : ℕ
  pub todo : List Item
  pub as_deep : depth todo ≡ depth k
  pub runs : Leads ts p.end p.nest (item.suffixes in_target item.first_target ∷ k) (targets.end + 1) nest (item.expression ∷ item.list_more ∷ todo)
  pub behind : (j w : ℕ) → Leads ts j (max nest w) todo j (max targets.nest w) k

abbrev pub FindsTargets : List Token → (room b : ℕ) → Part → Result Parts Fault → Type 0
FindsTargets ts room b p (Ok targets) = (IsTargets ts most b targets.list targets.end × Within room b targets.nest targets.end) × ((k : List Item) → depth k + room ≡ most → Has ts targets.end token.Equal → LeadsToValues ts p targets k) × ((k : List Item) → depth k + room ≡ most → Lacks ts targets.end token.Equal → Fails ts p.end p.nest (item.suffixes in_target item.first_target ∷ k) (fault.Unexpected targets.end))
FindsTargets ts room b p (Err f) = (k : List Item) → depth k + room ≡ most → Fails ts p.end p.nest (item.suffixes in_target item.first_target ∷ k) f

-- a further target: where it is none, no turn follows it
abbrev pub FindsTarget : List Token → (room i : ℕ) → Result Part Fault → Type 0
FindsTarget ts room i = Finds ts room i (from_item item.target) (λ (p : Part). IsPrefix ts most i p.expr in_target p.end × (suffix (kind_at ts p.end) ≡ suffix_class.Nothing) × Within room i p.nest p.end) (λ (p : Part). p.end) (λ (p : Part) v k. (p.nest, item.suffixes in_target item.later_target ∷ item.greater v ∷ k))

-- the name or the parenthesis that begins a further target, to which suffixes belong
abbrev pub IsBegun : List Token → (i : ℕ) → Prefix → Type 0
IsBegun ts i p = (e : Expr) (d : PrefixEnd) (j : ℕ) → IsSuffixes ts most i p.part.end p.part.expr (ending_of p.ending) e d j → IsPrefix ts most i e d j

abbrev pub FindsTargetBegin : List Token → (room i : ℕ) → Result Prefix Fault → Type 0
FindsTargetBegin ts room i = Finds ts room i (from_item item.target) (λ (p : Prefix). IsBegun ts i p × Within room i p.part.nest p.part.end) (λ (p : Prefix). p.part.end) (λ (p : Prefix) v k. (p.part.nest, item.suffixes (ending_of p.ending) item.later_target ∷ item.greater v ∷ k))

-- ---- parts of statements

abbrev pub FindsFunctionName : List Token → (room i : ℕ) → Result FunctionName Fault → Type 0
FindsFunctionName ts room i = Finds ts room i (λ v k. (0, item.a_name ∷ item.members ∷ k)) (λ (n : FunctionName). IsFunctionName ts i n.expr n.added n.end × Within room i n.nest n.end) (λ (n : FunctionName). n.end) (λ (n : FunctionName) v k. (n.nest, k))

-- a further name of it, behind the `.` or the `:` that stands behind a part which begins at place b
abbrev pub FindsMemberName : List Token → (room b : ℕ) → (left : Part) → Result Part Fault → Type 0
FindsMemberName ts room b left (Ok p) = (left.nest < room) × ((x : StrId) × FindsName ts (left.end + 1) (Ok x) × (p.expr ≡ expr_at ts b (expr.Member left.expr x))) × (p.nest ≡ left.nest + 1) × (p.end ≡ left.end + 2)
FindsMemberName ts room b left (Err f) = ((room ≤ left.nest) × (f ≡ fault.TooDeep left.end)) ⊎ ((left.nest < room) × FindsName ts (left.end + 1) (Err f))

-- the name of a method, with the parameter that it adds
abbrev pub IsMethodName : Part → FunctionName → Type 0
IsMethodName p n = (n.expr ≡ p.expr) × (n.added ≡ self_name ∷ []) × (n.nest ≡ p.nest) × (n.end ≡ p.end)

-- the assignment of a function, whose word stands at place i, to a target
abbrev pub assigns_function : List Token → (i : ℕ) → Expr → Function → Stat
assigns_function ts i e f = stat_at ts i (stat.Assign (e ∷ []) (expr_at ts i (expr.Function (function_at ts i f.params f.vararg f.stats)) ∷ []))

-- what is behind the word `if`, up to its `end`
abbrev pub FindsArms : List Token → (room i : ℕ) → Result Arms Fault → Type 0
FindsArms ts room i = Finds ts room i (λ v k. (v, item.expression ∷ item.expects words.Then ∷ item.block ∷ item.arm_more ∷ k)) (λ (a : Arms). IsArms ts most i a.arms a.other a.end × Within room i a.nest a.end) (λ (a : Arms). a.end) (λ (a : Arms). to_greater a.nest)

-- a condition with its block
abbrev pub IsGuarded : List Token → (i : ℕ) → Guarded → Type 0
IsGuarded ts i g = (j : ℕ) × IsExpr ts most i g.cond j × Has ts j token.Then × IsBlock ts most (j + 1) g.body g.end

abbrev pub FindsGuarded : List Token → (room i : ℕ) → Result Guarded Fault → Type 0
FindsGuarded ts room i = Finds ts room i (λ v k. (v, item.expression ∷ item.expects words.Then ∷ item.block ∷ k)) (λ (g : Guarded). IsGuarded ts i g × Within room i g.nest g.end) (λ (g : Guarded). g.end) (λ (g : Guarded). to_greater g.nest)

-- the end of an `if`, with a last block or none
abbrev pub IsOtherwise : List Token → (i : ℕ) → Option (List Stat) → (end : ℕ) → Type 0
IsOtherwise ts i None end = Has ts i token.End × (end ≡ i + 1)
IsOtherwise ts i (Some b) end = (j : ℕ) × Has ts i token.Else × IsBlock ts most (i + 1) b j × Has ts j token.End × (end ≡ j + 1)

abbrev pub FindsOtherwise : List Token → (room i : ℕ) → Result Otherwise Fault → Type 0
FindsOtherwise ts room i = Finds ts room i (λ v k. (v, item.arm_more ∷ k)) (λ (o : Otherwise). IsOtherwise ts i o.other o.end × Within room i o.nest o.end) (λ (o : Otherwise). o.end) (λ (o : Otherwise). to_greater o.nest)

-- the numbers of a numeric `for`
abbrev pub IsLimits : List Token → (i : ℕ) → Limits → Type 0
IsLimits ts i l = (j k : ℕ) × IsExpr ts most i l.start j × Has ts j token.Comma × IsExpr ts most (j + 1) l.limit k × grammar.IsStep ts most k l.step l.end

abbrev pub FindsLimits : List Token → (room i : ℕ) → Result Limits Fault → Type 0
FindsLimits ts room i = Finds ts room i (λ v k. (v, item.expression ∷ item.expects words.Comma ∷ item.expression ∷ item.for_step ∷ k)) (λ (l : Limits). IsLimits ts i l × Within room i l.nest l.end) (λ (l : Limits). l.end) (λ (l : Limits). to_greater l.nest)

-- what is behind the `=` of a numeric `for`, up to its `end`
abbrev pub IsCount : List Token → (i : ℕ) → Count → Type 0
IsCount ts i c = (j k l m : ℕ) × IsExpr ts most i c.start j × Has ts j token.Comma × IsExpr ts most (j + 1) c.limit k × grammar.IsStep ts most k c.step l × Has ts l token.Do × IsBlock ts most (l + 1) c.body m × Has ts m token.End × (c.end ≡ m + 1)

abbrev pub FindsCount : List Token → (room i : ℕ) → Result Count Fault → Type 0
FindsCount ts room i = Finds ts room i (λ v k. (v, item.expression ∷ item.expects words.Comma ∷ item.expression ∷ item.for_step ∷ item.expects words.Do ∷ item.block ∷ item.expects words.End ∷ k)) (λ (c : Count). IsCount ts i c × Within room i c.nest c.end) (λ (c : Count). c.end) (λ (c : Count). to_greater c.nest)

-- what is behind the `in` of a generic `for`, up to its `end`
abbrev pub IsWalk : List Token → (i : ℕ) → Walk → Type 0
IsWalk ts i w = (j m : ℕ) × IsList ts most i w.values j × Has ts j token.Do × IsBlock ts most (j + 1) w.body m × Has ts m token.End × (w.end ≡ m + 1)

abbrev pub FindsWalk : List Token → (room i : ℕ) → Result Walk Fault → Type 0
FindsWalk ts room i = Finds ts room i (λ v k. (v, item.expression ∷ item.list_more ∷ item.expects words.Do ∷ item.block ∷ item.expects words.End ∷ k)) (λ (w : Walk). IsWalk ts i w × Within room i w.nest w.end) (λ (w : Walk). w.end) (λ (w : Walk). to_greater w.nest)

-- ---- a whole script

abbrev pub ReadsScript : List Token → Result Block Fault → Type 0
ReadsScript ts (Ok b) = IsBlock ts most 0 b.stats b.end × (kind_at ts b.end ≡ None) × Leads ts 0 0 (item.block ∷ []) b.end b.nest []
ReadsScript ts (Err f) = Fails ts 0 0 (item.block ∷ []) f
