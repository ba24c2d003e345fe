-- What the methods of the parser find: a part of the tree, by a relation of the grammar, and that turns of the machine lead behind it;
-- or that they lead to a state where none follows.
use Rattle.std.specs.Prelude.{◌≡◌, ℕ, ◌+◌, ◌-◌, ◌^◌, ◌<◌, ◌≤◌, max, List, ◌∷◌, ◌++◌, Option, Result, Ok, Err, ◌⊎◌}
use Rattle.std.specs.declared.alloc.Global.{Global}
use denote.Bor.{Bor}
use Rattle.byte_text.specs.declared.StrId.{StrId}
use Rattle.syntax_tree.specs.declared.token.Token.{Token}
use Rattle.syntax_tree.specs.declared.token.TokenKind.TheVariants as token
use Rattle.syntax_tree.specs.declared.tree.Expr.{Expr}
use Rattle.syntax_tree.specs.declared.tree.ExprArm.{ExprArm, roll-ExprArm}
use Rattle.syntax_tree.specs.declared.tree.ExprKind as expr
use Rattle.syntax_tree.specs.declared.tree.ExprKind.{ExprKind}
use Rattle.syntax_tree.specs.declared.tree.Field.{Field}
use Rattle.syntax_tree.specs.Nodes.{expr_at}
use Rattle.syntax_tree.specs.Places.{kind_at, Has}
use Rattle.syntax_tree.specs.Types.{IsType, IsGenerics}
use Rattle.syntax_tree.specs.Words.{literal_of}
use Rattle.syntax_tree.specs.Grammar.{PrefixEnd, in_target, in_call, in_paren, IsBind, IsBinds, IsExpr, IsList, IsLevel, IsConcat, IsUnary, IsSuffixes, IsTable, IsBody, IsBlock}
use Rattle.parse_steps.specs.declared.levels.Level.{Level}
use Rattle.parse_steps.specs.declared.levels.Level.TheVariants as levels
use Rattle.parse_steps.specs.declared.classes.Suffix.TheVariants as suffix_class
use Rattle.type_skip.specs.declared.words.Word.{Word}
use Rattle.type_skip.specs.declared.words.Word.TheVariants as words
use Rattle.parse_steps.specs.Classes.{suffix}
use Rattle.type_skip.specs.Words.{token_of}
use Rattle.parse_steps.specs.Items as item
use Rattle.parse_steps.specs.Items.{Item, PrefixUse, depth}
use Rattle.parse_steps.specs.Levels.{rank_of}
use Rattle.parse_steps.specs.Steps.{most, Leads, Reaches, IsStuck, IsDeep, IsLate}
use Rattle.expression_parser.specs.declared.fault.Fault.{Fault}
use Rattle.expression_parser.specs.declared.fault.Fault.TheVariants as fault
use Rattle.expression_parser.specs.declared.parts.Part.{Part}
use Rattle.expression_parser.specs.declared.parts.Parts.{Parts}
use Rattle.expression_parser.specs.declared.parts.Prefix.{Prefix}
use Rattle.expression_parser.specs.declared.parts.Ending.{Ending}
use Rattle.expression_parser.specs.declared.parts.Ending.TheVariants as endings
use Rattle.expression_parser.specs.declared.parts.Function.{Function}
use Rattle.expression_parser.specs.declared.parts.Bind.{Bind}
use Rattle.expression_parser.specs.declared.parts.Binds.{Binds}
use Rattle.expression_parser.specs.declared.parts.Block.{Block}
use Rattle.expression_parser.specs.declared.parts.Wanted.{Wanted}
use Rattle.expression_parser.specs.declared.parts.Wanted.TheVariants as wanted
use Rattle.expression_parser.specs.declared.parts.Found.{Found}
use Rattle.expression_parser.specs.declared.parts.Found.TheVariants as found

-- from this state turns lead to where none follows
abbrev pub Fails : List Token → (i v : ℕ) (k : List Item) → Fault → Type 0
Fails ts i v k (fault.Unexpected p) = Reaches ts i v k (λ j w l. IsStuck ts j w l p)
Fails ts i v k (fault.TooDeep p) = Reaches ts i v k (λ j w l. IsDeep ts j w l p)
Fails ts i v k (fault.Late p) = Reaches ts i v k (λ j w l. (j ≡ p) × IsLate ts j w l)
Fails ts i v k fault.OutOfMemory = Unit {0}

-- where a method begins, and where it ends: the nest of what was read last, and the stack, from what there was of both before
abbrev pub Start : Type 0
Start = ℕ → List Item → ℕ × List Item

-- A method at place i, in which so many nodes may nest.
abbrev pub Finds : {A : Type 0} → List Token → (room i : ℕ) → (start : Start) → (Good : A → Type 0) → (end : A → ℕ) → (finish : A → Start) → Result A Fault → Type 0
Finds ts room i start Good end finish (Ok a) = Good a × ((v : ℕ) (k : List Item) → depth k + room ≡ most → Leads ts i (start v k).0 (start v k).1 (end a) (finish a v k).0 (finish a v k).1)
Finds ts room i start Good end finish (Err f) = (v : ℕ) (k : List Item) → depth k + room ≡ most → Fails ts i (start v k).0 (start v k).1 f

-- what an item on the stack reads, and how deep it nests with what there was before
abbrev pub from_item : Item → Start
from_item x v k = (v, x ∷ k)

abbrev pub to_greater : ℕ → Start
to_greater nest v k = (max v nest, k)

-- a part that goes forward and nests no deeper than it may
abbrev pub Within : (room i nest j : ℕ) → Type 0
Within room i nest j = (nest ≤ room) × (i < j)

-- ---- expressions

abbrev pub IsAtLevel : List Token → Level → (i : ℕ) → Expr → (j : ℕ) → Type 0
IsAtLevel ts (levels.Of r) i e j = IsLevel ts most (rank_of r) i e j
IsAtLevel ts levels.Runs i e j = IsConcat ts most i e j
IsAtLevel ts levels.Unaries i e j = IsUnary ts most i e j

abbrev pub FindsLevel : List Token → (room : ℕ) → Level → (i : ℕ) → Result Part Fault → Type 0
FindsLevel ts room l i = Finds ts room i (from_item (item.level l)) (λ (p : Part). IsAtLevel ts l i p.expr p.end × Within room i p.nest p.end) (λ (p : Part). p.end) (λ (p : Part). to_greater p.nest)

-- an expression alone, by an item that begins with nothing read before
abbrev pub FindsAlone : List Token → (room i : ℕ) → Item → (Good : Part → Type 0) → Result Part Fault → Type 0
FindsAlone ts room i x Good = Finds ts room i (λ v k. (0, x ∷ k)) (λ (p : Part). Good p × Within room i p.nest p.end) (λ (p : Part). p.end) (λ (p : Part) v k. (p.nest, k))

abbrev pub FindsUnary : List Token → (room i : ℕ) → Result Part Fault → Type 0
FindsUnary ts room i = FindsAlone ts room i item.unary (λ (p : Part). IsUnary ts most i p.expr p.end)

-- expressions with commas between
abbrev pub FindsList : List Token → (room i : ℕ) → Result Parts Fault → Type 0
FindsList ts room i = Finds ts room i (λ v k. (v, item.expression ∷ item.list_more ∷ k)) (λ (p : Parts). IsList ts most i p.list p.end × Within room i p.nest p.end) (λ (p : Parts). p.end) (λ (p : Parts). to_greater p.nest)

abbrev pub IsLiteral : List Token → (i : ℕ) → Option ExprKind → Type 0
IsLiteral ts i k = k ≡ literal_of (kind_at ts i)

-- an arm of one: a condition, the word `then` and a value
abbrev pub expr_arm : (cond value : Expr) → ExprArm
expr_arm cond value = roll-ExprArm (record { cond = cond; value = value })

-- ---- prefixes

-- the name at place i, with nothing behind it
abbrev pub IsNamed : List Token → (i : ℕ) → StrId → Prefix → Type 0
IsNamed ts i x p = (p.part.expr ≡ expr_at ts i (expr.Name x)) × (p.part.nest ≡ 0) × (p.part.end ≡ i + 1) × (p.ending ≡ endings.Target)

abbrev pub ending_of : Ending → PrefixEnd
ending_of endings.Target = in_target
ending_of endings.Call = in_call
ending_of endings.Paren = in_paren

-- an expression in parentheses, behind its `(` at place b
abbrev pub IsParenthesis : List Token → (b : ℕ) → Part → Type 0
IsParenthesis ts b p = (e : Expr) × (j : ℕ) × IsExpr ts most (b + 1) e j × Has ts j token.CloseParen × (p.expr ≡ expr_at ts b (expr.Paren e)) × (p.end ≡ j + 1)

abbrev pub FindsParenthesis : List Token → (room b : ℕ) → Result Part Fault → Type 0
FindsParenthesis ts room b = Finds ts room (b + 1) (λ v k. (0, item.expression ∷ item.expects words.CloseParen ∷ item.wrap ∷ k)) (λ (p : Part). IsParenthesis ts b p × Within room b p.nest p.end) (λ (p : Part). p.end) (λ (p : Part) v k. (p.nest, k))

-- all suffixes behind a part of a prefix, up to a token that is none
abbrev pub IsWholePrefix : List Token → (b : ℕ) → (first : Prefix) → Prefix → Type 0
IsWholePrefix ts b first p = IsSuffixes ts most b first.part.end first.part.expr (ending_of first.ending) p.part.expr (ending_of p.ending) p.part.end × (suffix (kind_at ts p.part.end) ≡ suffix_class.Nothing)

abbrev pub FindsSuffixes : List Token → (room b : ℕ) → Prefix → Result Prefix Fault → Type 0
FindsSuffixes ts room b first r = (u : PrefixUse) → Finds ts room first.part.end (λ v k. (first.part.nest, item.suffixes (ending_of first.ending) u ∷ k)) (λ (p : Prefix). IsWholePrefix ts b first p × (p.part.nest ≤ room) × (first.part.end ≤ p.part.end)) (λ (p : Prefix). p.part.end) (λ (p : Prefix) v k. (p.part.nest, item.suffixes (ending_of p.ending) u ∷ k)) r

-- a table at its `{`, by its node's turn
abbrev pub IsTableAt : List Token → (i : ℕ) → Part → Type 0
IsTableAt ts i p = (fs : List Field) × IsTable ts most i fs p.end × (p.expr ≡ expr_at ts i (expr.Table fs))

abbrev pub FindsTable : List Token → (room i : ℕ) → Result Part Fault → Type 0
FindsTable ts room i (Ok p) = (IsTableAt ts i p × Within room i p.nest p.end) × (1 ≤ room) × ((k : List Item) → depth k + room ≡ most → Leads ts (i + 1) 0 (item.fields ∷ item.wrap ∷ k) p.end p.nest k)
FindsTable ts room i (Err (fault.TooDeep p)) = ((room ≡ 0) × (p ≡ i)) ⊎ ((1 ≤ room) × ((k : List Item) → depth k + room ≡ most → Fails ts (i + 1) 0 (item.fields ∷ item.wrap ∷ k) (fault.TooDeep p)))
FindsTable ts room i (Err f) = (1 ≤ room) × ((k : List Item) → depth k + room ≡ most → Fails ts (i + 1) 0 (item.fields ∷ item.wrap ∷ k) f)

-- ---- functions

-- the parts of a function behind its word and its name, whose parameters stand behind those that were added
abbrev pub IsFunction : List Token → (i : ℕ) → (added : List StrId) → Function → Type 0
IsFunction ts i added f = (xs : List StrId) × IsBody ts most i xs f.vararg f.stats f.end × (f.params ≡ added ++ xs)

abbrev pub FindsBody : List Token → (room i : ℕ) → (added : List StrId) → Result Function Fault → Type 0
FindsBody ts room i added = Finds ts room i (from_item item.body) (λ (f : Function). IsFunction ts i added f × Within room i f.nest f.end) (λ (f : Function). f.end) (λ (f : Function). to_greater f.nest)

-- Parts without expressions: they change no nest, and are found whatever may nest around them.
abbrev pub FindsShallow : {A : Type 0} → List Token → (i : ℕ) → (List Item → List Item) → (Good : A → Type 0) → (end : A → ℕ) → Result A Fault → Type 0
FindsShallow ts i stack Good end (Ok a) = Good a × ((v : ℕ) (k : List Item) → Leads ts i v (stack k) (end a) v k)
FindsShallow ts i stack Good end (Err f) = (v : ℕ) (k : List Item) → Fails ts i v (stack k) f

abbrev pub FindsWord : List Token → (i : ℕ) → Word → Result ℕ Fault → Type 0
FindsWord ts i w = FindsShallow ts i (λ k. item.expects w ∷ k) (λ j. Has ts i (token_of w) × (j ≡ i + 1)) (λ j. j)

abbrev pub FindsType : List Token → (i : ℕ) → Result ℕ Fault → Type 0
FindsType ts i = FindsShallow ts i (λ k. item.a_type ∷ k) (λ j. IsType ts most i j × (i < j)) (λ j. j)

abbrev pub FindsName : List Token → (i : ℕ) → Result StrId Fault → Type 0
FindsName ts i = FindsShallow ts i (λ k. item.a_name ∷ k) (λ x. Has ts i (token.Name x)) (λ x. i + 1)

abbrev pub FindsGenerics : List Token → (i : ℕ) → Result ℕ Fault → Type 0
FindsGenerics ts i = FindsShallow ts i (λ k. item.generics ∷ k) (λ j. IsGenerics ts most i j × (i ≤ j)) (λ j. j)

abbrev pub FindsBind : List Token → (i : ℕ) → Result Bind Fault → Type 0
FindsBind ts i = FindsShallow ts i (λ k. item.bind ∷ k) (λ (b : Bind). IsBind ts most i b.name b.end × (i < b.end)) (λ (b : Bind). b.end)

-- further names behind a first one, which begins at place i and ends at place j
abbrev pub FindsBinds : List Token → (i j : ℕ) → Result Binds Fault → Type 0
FindsBinds ts i j = FindsShallow ts j (λ k. item.bind_more ∷ k) (λ (b : Binds). IsBinds ts most i b.names b.end × (j ≤ b.end)) (λ (b : Binds). b.end)

-- ---- statements

abbrev pub FindsBlock : List Token → (room i : ℕ) → Result Block Fault → Type 0
FindsBlock ts room i = Finds ts room i (from_item item.block) (λ (b : Block). IsBlock ts most i b.stats b.end × (b.nest ≤ room) × (i ≤ b.end)) (λ (b : Block). b.end) (λ (b : Block). to_greater b.nest)

-- ---- what is one node further in

abbrev pub FindsWanted : List Token → (room : ℕ) → Wanted → (i : ℕ) → Result Found Fault → Type 0
FindsWanted ts room (wanted.Level l) i (Ok (found.Part p)) = FindsLevel ts room l i (Ok p)
FindsWanted ts room (wanted.Level l) i (Ok (found.Block b)) = ⊥
FindsWanted ts room (wanted.Level l) i (Err f) = FindsLevel ts room l i (Err f)
FindsWanted ts room (wanted.Level l) i (Ok (found.Parts p)) = ⊥
FindsWanted ts room wanted.Unary i (Ok (found.Part p)) = FindsUnary ts room i (Ok p)
FindsWanted ts room wanted.Unary i (Ok (found.Parts p)) = ⊥
FindsWanted ts room wanted.Unary i (Ok (found.Block b)) = ⊥
FindsWanted ts room wanted.Unary i (Err f) = FindsUnary ts room i (Err f)
FindsWanted ts room wanted.Table i (Ok (found.Part p)) = FindsTable ts room i (Ok p)
FindsWanted ts room wanted.Table i (Ok (found.Parts p)) = ⊥
FindsWanted ts room wanted.Table i (Ok (found.Block b)) = ⊥
FindsWanted ts room wanted.Table i (Err f) = FindsTable ts room i (Err f)
FindsWanted ts room wanted.List i (Ok (found.Part p)) = ⊥
FindsWanted ts room wanted.List i (Ok (found.Parts p)) = FindsList ts room i (Ok p)
FindsWanted ts room wanted.List i (Ok (found.Block b)) = ⊥
FindsWanted ts room wanted.List i (Err f) = FindsList ts room i (Err f)
FindsWanted ts room wanted.Block i (Ok (found.Part p)) = ⊥
FindsWanted ts room wanted.Block i (Ok (found.Parts p)) = ⊥
FindsWanted ts room wanted.Block i (Ok (found.Block b)) = FindsBlock ts room i (Ok b)
FindsWanted ts room wanted.Block i (Err f) = FindsBlock ts room i (Err f)

-- room for a node over a part of this nest
abbrev pub Guards : (nest room at : ℕ) → Result ℕ Fault → Type 0
Guards nest room at (Ok inner) = (nest < room) × (inner ≡ room - 1)
Guards nest room at (Err f) = (room ≤ nest) × (f ≡ fault.TooDeep at)

-- what may be asked at a place: a table only where its `{` stands
abbrev pub Asked : List Token → Wanted → (i : ℕ) → Type 0
Asked ts wanted.Table i = Has ts i token.OpenBrace
Asked ts (wanted.Level l) i = Unit {0}
Asked ts wanted.Unary i = Unit {0}
Asked ts wanted.List i = Unit {0}
Asked ts wanted.Block i = Unit {0}

-- a function value that reads what is one node further in, where so many nodes may nest around it
pub record Nests (room : ℕ) (pre : Global → Bor (List Token) → ℕ → Wanted → ℕ → Type 0)
    (post : Global → Bor (List Token) → ℕ → Wanted → ℕ → Result Found Fault → Type 0) : Type 0 where
  pub callable : 0 < room → room < 2 ^ 32 → (alloc : Global) (tokens : Bor (List Token)) (i : ℕ) (w : Wanted) → Asked tokens.now w i → pre alloc tokens i w (room - 1)
  pub finds : 0 < room → (alloc : Global) (tokens : Bor (List Token)) (i : ℕ) (w : Wanted) (r : Result Found Fault) → post alloc tokens i w (room - 1) r → FindsWanted tokens.now (room - 1) w i r
