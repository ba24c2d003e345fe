-- Of the crate's own functions: what those that read parts of expressions, tables and functions find.
use Rattle.std.specs.Prelude.{◌≡◌, ℕ, ◌+◌, ◌-◌, ◌<◌, ◌≤◌, max, List, ◌∷◌, ◌++◌, Result, Ok, Err, ◌⊎◌}
use Rattle.byte_text.specs.declared.StrId.{StrId}
use Rattle.syntax_tree.specs.declared.token.Token.{Token}
use Rattle.syntax_tree.specs.declared.token.TokenKind.TheVariants as token
use Rattle.syntax_tree.specs.declared.tree.Expr.{Expr}
use Rattle.syntax_tree.specs.declared.tree.Field.{Field}
use Rattle.syntax_tree.specs.Places.{kind_at, Has}
use Rattle.syntax_tree.specs.Types.{IsGeneric}
use Rattle.syntax_tree.specs.Grammar.{PrefixEnd, IsTyping, IsParamList, IsExpr, IsOperations, IsConcat, IsPow, IsCast, IsSimple, IsPieces, IsChoices, IsSuffixes, IsArgs, IsFields, IsField}
use Rattle.parse_steps.specs.declared.levels.Level.{Level}
use Rattle.parse_steps.specs.declared.levels.Rank.{Rank}
use Rattle.type_skip.specs.declared.words.Word.TheVariants as words
use Rattle.parse_steps.specs.declared.classes.Beginning.TheVariants as begins
use Rattle.parse_steps.specs.Classes.{suffix, beginning}
use Rattle.parse_steps.specs.Items as item
use Rattle.parse_steps.specs.Items.{Item, PrefixUse, climb}
use Rattle.parse_steps.specs.Levels.{rank_of}
use Rattle.parse_steps.specs.Steps.{most, Leads}
use Rattle.expression_parser.specs.declared.fault.Fault.{Fault}
use Rattle.expression_parser.specs.declared.parts.Part.{Part}
use Rattle.expression_parser.specs.declared.parts.Parts.{Parts}
use Rattle.expression_parser.specs.declared.parts.Pieces.{Pieces}
use Rattle.expression_parser.specs.declared.parts.ArmPart.{ArmPart}
use Rattle.expression_parser.specs.declared.parts.Choices.{Choices}
use Rattle.expression_parser.specs.declared.parts.Prefix.{Prefix}
use Rattle.expression_parser.specs.declared.parts.Fields.{Fields}
use Rattle.expression_parser.specs.declared.parts.FieldPart.{FieldPart}
use Rattle.expression_parser.specs.declared.parts.Parameters.{Parameters}
use Rattle.expression_parser.specs.Reading.{Fails, Finds, from_item, to_greater, Within, IsAtLevel, FindsAlone, ending_of, FindsShallow}

-- a part that begins at place b and whose left part was read: it is given what goes on behind that
abbrev pub GoesOn : List Token → (room : ℕ) → (first : Part) → (stack : List Item → List Item) → (Good : Part → Type 0) → Result Part Fault → Type 0
GoesOn ts room first stack Good = Finds ts room first.end (λ v k. (first.nest, stack k)) (λ (p : Part). Good p × (p.nest ≤ room) × (first.end ≤ p.end)) (λ (p : Part). p.end) (λ (p : Part) v k. (p.nest, k))

-- operators of a rank behind a left part, which begins at place b
abbrev pub FindsOperations : List Token → (room : ℕ) → Rank → (b : ℕ) → Part → Result Part Fault → Type 0
FindsOperations ts room r b left = GoesOn ts room left (λ k. item.operations r ∷ k) (λ (p : Part). IsOperations ts most (rank_of r) b left.end left.expr p.expr p.end)

-- what follows an operand that begins at place b, up to a level
abbrev pub FindsClimb : List Token → (room : ℕ) → Level → (b : ℕ) → Part → Result Part Fault → Type 0
FindsClimb ts room l b first = GoesOn ts room first (climb l) (λ (p : Part). IsAtLevel ts l b p.expr p.end)

-- a run of `..` behind its first part
abbrev pub FindsRun : List Token → (room b : ℕ) → Part → Result Part Fault → Type 0
FindsRun ts room b first = GoesOn ts room first (λ k. item.run ∷ k) (λ (p : Part). IsConcat ts most b p.expr p.end)

abbrev pub FindsSimple : List Token → (room i : ℕ) → Result Part Fault → Type 0
FindsSimple ts room i = FindsAlone ts room i item.simple (λ (p : Part). IsSimple ts most i p.expr p.end)

-- a cast and a power behind a simple expression that begins at place b
abbrev pub FindsCast : List Token → (room b : ℕ) → Part → Result Part Fault → Type 0
FindsCast ts room b first = GoesOn ts room first (λ k. item.cast ∷ k) (λ (p : Part). IsCast ts most b p.expr p.end)

abbrev pub FindsPower : List Token → (room b : ℕ) → Part → Result Part Fault → Type 0
FindsPower ts room b first = GoesOn ts room first (λ k. item.power ∷ k) (λ (p : Part). IsPow ts most b p.expr p.end)

-- the pieces of an interpolated string behind its first text, which stands before the others
abbrev pub FindsPieces : List Token → (room i : ℕ) → StrId → Result Pieces Fault → Type 0
FindsPieces ts room i x = Finds ts room i (λ v k. (v, item.expression ∷ item.pieces ∷ k)) (λ (p : Pieces). ((xs : List StrId) × (p.texts ≡ x ∷ xs) × IsPieces ts most i xs p.values p.end) × Within room i p.nest p.end) (λ (p : Pieces). p.end) (λ (p : Pieces). to_greater p.nest)

-- a node without parts, of this nest
abbrev pub IsLeaf : List Token → (i nest : ℕ) → Type 0
IsLeaf ts i nest = ((beginning (kind_at ts i) ≡ begins.Leaf) × (nest ≡ 0)) ⊎ ((beginning (kind_at ts i) ≡ begins.Whole) × (nest ≡ 1))

-- what is behind the word `if` of an expression
abbrev pub FindsChoices : List Token → (room i : ℕ) → Result Choices Fault → Type 0
FindsChoices ts room i = Finds ts room i (λ v k. (v, item.expression ∷ item.expects words.Then ∷ item.expression ∷ item.choice_more ∷ k)) (λ (p : Choices). IsChoices ts most i p.arms p.other p.end × Within room i p.nest p.end) (λ (p : Choices). p.end) (λ (p : Choices). to_greater p.nest)

abbrev pub IsArm : List Token → (i : ℕ) → ArmPart → Type 0
IsArm ts i a = (j : ℕ) × IsExpr ts most i a.cond j × Has ts j token.Then × IsExpr ts most (j + 1) a.value a.end

abbrev pub FindsArm : List Token → (room i : ℕ) → Result ArmPart Fault → Type 0
FindsArm ts room i = Finds ts room i (λ v k. (v, item.expression ∷ item.expects words.Then ∷ item.expression ∷ k)) (λ (a : ArmPart). IsArm ts i a × Within room i a.nest a.end) (λ (a : ArmPart). a.end) (λ (a : ArmPart). to_greater a.nest)

-- what it is otherwise, where no further arm stands
abbrev pub FindsOther : List Token → (room i : ℕ) → Result Part Fault → Type 0
FindsOther ts room i = Finds ts room i (from_item item.choice_more) (λ (p : Part). (Has ts i token.Else × IsExpr ts most (i + 1) p.expr p.end) × Within room i p.nest p.end) (λ (p : Part). p.end) (λ (p : Part). to_greater p.nest)

-- one suffix behind a part of a prefix that begins at place b
abbrev pub IsOneSuffix : List Token → (b : ℕ) → (first : Prefix) → Prefix → Type 0
IsOneSuffix ts b first p = (e : Expr) (d : PrefixEnd) (j : ℕ) → IsSuffixes ts most b p.part.end p.part.expr (ending_of p.ending) e d j → IsSuffixes ts most b first.part.end first.part.expr (ending_of first.ending) e d j

abbrev pub FindsSuffix : List Token → (room b : ℕ) → Prefix → Result Prefix Fault → Type 0
FindsSuffix ts room b first r = (u : PrefixUse) → Finds ts room first.part.end (λ v k. (first.part.nest, item.suffixes (ending_of first.ending) u ∷ k)) (λ (p : Prefix). IsOneSuffix ts b first p × (p.part.nest ≤ room) × (first.part.end < p.part.end)) (λ (p : Prefix). p.part.end) (λ (p : Prefix) v k. (p.part.nest, item.suffixes (ending_of p.ending) u ∷ k)) r

-- the arguments of a call whose callee or object nests so deep
abbrev pub FindsArguments : List Token → (room left i : ℕ) → Result Parts Fault → Type 0
FindsArguments ts room left i = Finds ts room i (λ v k. (left, item.arguments ∷ item.wrap ∷ k)) (λ (p : Parts). IsArgs ts most i p.list p.end × (p.nest < room) × (i < p.end)) (λ (p : Parts). p.end) (λ (p : Parts) v k. (max left p.nest, item.wrap ∷ k))

-- the fields of a table, behind its `{` and up to its `}`
abbrev pub IsClosedFields : List Token → (i : ℕ) → List Field → (end : ℕ) → Type 0
IsClosedFields ts i fields end = (j : ℕ) × IsFields ts most i fields j × Has ts j token.CloseBrace × (end ≡ j + 1)

abbrev pub FindsFields : List Token → (room i : ℕ) → Result Fields Fault → Type 0
FindsFields ts room i = Finds ts room i (from_item item.fields) (λ (f : Fields). IsClosedFields ts i f.list f.end × Within room i f.nest f.end) (λ (f : Fields). f.end) (λ (f : Fields). to_greater f.nest)

-- one field, where no `}` stands
abbrev pub FindsField : List Token → (room i : ℕ) → Result FieldPart Fault → Type 0
FindsField ts room i = Finds ts room i (from_item item.fields) (λ (f : FieldPart). IsField ts most i f.field f.end × Within room i f.nest f.end) (λ (f : FieldPart). f.end) (λ (f : FieldPart) v k. (max v f.nest, item.field_end ∷ k))

abbrev pub FindsTyping : List Token → (i : ℕ) → Result ℕ Fault → Type 0
FindsTyping ts i = FindsShallow ts i (λ k. item.typing ∷ k) (λ j. IsTyping ts most i j × (i ≤ j)) (λ j. j)

-- one parameter of types
abbrev pub FindsGeneric : List Token → (i : ℕ) → Result ℕ Fault → Type 0
FindsGeneric ts i (Ok j) = (IsGeneric ts most i j × (i < j)) × ((v : ℕ) (k : List Item) → Leads ts i v (item.generic ∷ k) j v (item.generic_more ∷ k))
FindsGeneric ts i (Err f) = (v : ℕ) (k : List Item) → Fails ts i v (item.generic ∷ k) f

-- parameters up to their `)`, behind those that were added
abbrev pub IsParameters : List Token → (i : ℕ) → (added : List StrId) → Parameters → Type 0
IsParameters ts i added p = (xs : List StrId) × (j : ℕ) × IsParamList ts most i xs p.vararg j × Has ts j token.CloseParen × (p.end ≡ j + 1) × (p.names ≡ added ++ xs)

abbrev pub FindsParameters : List Token → (i : ℕ) → (added : List StrId) → Result Parameters Fault → Type 0
FindsParameters ts i added = FindsShallow ts i (λ k. item.parameters ∷ k) (λ (p : Parameters). IsParameters ts i added p × (i < p.end)) (λ (p : Parameters). p.end)
