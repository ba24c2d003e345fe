-- What the rest of a run reads for each item: the statements, by the number of turns that are left.
use Rattle.std.proofs.Common.{◌≡◌, ℕ, ◌+◌, Bool, true, List, [], ◌∷◌, ◌++◌, Option}
use Rattle.byte_text.specs.declared.StrId.{StrId}
use Rattle.syntax_tree.specs.declared.token.TokenKind.{TokenKind}
use Rattle.syntax_tree.specs.declared.token.TokenKind.TheVariants as token
use Rattle.syntax_tree.specs.declared.tree.Arm.{Arm}
use Rattle.syntax_tree.specs.declared.tree.Expr.{Expr}
use Rattle.syntax_tree.specs.declared.tree.ExprArm.{ExprArm}
use Rattle.syntax_tree.specs.declared.tree.ExprKind as expr
use Rattle.syntax_tree.specs.declared.tree.Field.{Field}
use Rattle.syntax_tree.specs.declared.tree.Stat.{Stat}
use Rattle.syntax_tree.specs.Grammar.{PrefixEnd, IsExpr, IsList, IsLevel, IsOperations, IsConcat, IsRun, IsUnary, IsPieces, IsChoices, IsSuffixes, IsFields, IsParams, IsBind, IsBinds, IsMembers, IsFunctionName, IsBlock, IsTargets, IsArms}
use Rattle.syntax_tree.specs.Nodes.{expr_at, arm, expr_arm}
use Rattle.syntax_tree.specs.Operators as op
use Rattle.syntax_tree.specs.Places.{kind_at, Has}
use Rattle.syntax_tree.specs.Types.{IsGenericList}
use Rattle.parse_steps.specs.declared.levels.Rank.{Rank}
use Rattle.parse_steps.specs.declared.levels.Level.{Level}
use Rattle.parse_steps.specs.declared.levels.Level.TheVariants as levels
use Rattle.parse_steps.proofs.CallPlaces.{calls_expr, calls_arms, calls_exprs, calls_expr_arms, calls_fields, calls_stats, calls_other}
use Rattle.parse_steps.specs.Items.{Item, PrefixUse}
use Rattle.parse_steps.specs.Items as item
use Rattle.parse_steps.specs.Levels.{rank_of}
use Rattle.parse_steps.specs.Turns.{prefix_turn}
use Rattle.parse_steps.proofs.Accepting.{Text, Rest, After, Owes, Passes, Reads}

-- an expression of a level
abbrev pub IsAt : Text → Level → ℕ → Expr → ℕ → Type 0
IsAt s levels.Unaries i e j = IsUnary s.tokens s.brackets i e j
IsAt s levels.Runs i e j = IsConcat s.tokens s.brackets i e j
IsAt s (levels.Of r) i e j = IsLevel s.tokens s.brackets (rank_of r) i e j

-- a part, and the token that closes it
pub record Closed (s : Text) (kind : TokenKind) (Is : ℕ → Type 0) (stop : ℕ) : Type 0 where
  pub close : ℕ
  pub is : Is close
  pub stands : Has s.tokens close kind
  pub there : stop ≡ close + 1

-- a prefix, and what is behind it
pub record ReadsSuffixes (s : Text) (b i : ℕ) (a : Expr) (c : PrefixEnd) (u : PrefixUse) (g : ℕ) (k : List Item) (f : Bool) : Type 0 where
  pub tree : Expr
  pub end : PrefixEnd
  pub stop : ℕ
  pub is : IsSuffixes s.tokens s.brackets b i a c tree end stop
  pub owed : Bool
  pub owes : Owes s (calls_expr a) f → Owes s (calls_expr tree) owed
  pub nest : ℕ
  pub rest : After s g stop ⊥ true owed (prefix_turn u end (kind_at s.tokens stop) nest k)

-- target {"," target} "=" list
pub record Assigns (s : Text) (i : ℕ) (es vs : List Expr) (stop : ℕ) : Type 0 where
  pub close : ℕ
  pub targets : IsTargets s.tokens s.brackets i es close
  pub stands : Has s.tokens close token.Equal
  pub values : IsList s.tokens s.brackets (close + 1) vs stop

pub record All (s : Text) (g : ℕ) : Type 0 where
  pub unary : {i : ℕ} {k : List Item} {f : Bool} → Rest s g i (item.unary ∷ k) f → Reads s Expr (λ e j. IsUnary s.tokens s.brackets i e j) calls_expr [] g k f
  pub level : (l : Level) {i : ℕ} {k : List Item} {f : Bool} → Rest s g i (item.level l ∷ k) f → Reads s Expr (λ e j. IsAt s l i e j) calls_expr [] g k f
  pub operations : (r : Rank) (b : ℕ) (a : Expr) {i : ℕ} {k : List Item} {f : Bool} → Rest s g i (item.operations r ∷ k) f → Reads s Expr (λ e j. IsOperations s.tokens s.brackets (rank_of r) b i a e j) calls_expr (calls_expr a) g k f
  pub run_more : (h : ℕ) (e : Expr) {i : ℕ} {k : List Item} {f : Bool} → IsLevel s.tokens s.brackets op.sums h e i → Rest s g i (item.run_more ∷ k) f → Reads s (List Expr) (λ es j. IsRun s.tokens s.brackets h (e ∷ es) j) calls_exprs [] g k f
  pub list_more : (h : ℕ) (e : Expr) {i : ℕ} {k : List Item} {f : Bool} → IsExpr s.tokens s.brackets h e i → Rest s g i (item.list_more ∷ k) f → Reads s (List Expr) (λ es j. IsList s.tokens s.brackets h (e ∷ es) j) calls_exprs [] g k f
  pub pieces : (h : ℕ) (e : Expr) {i : ℕ} {k : List Item} {f : Bool} → IsExpr s.tokens s.brackets h e i → Rest s g i (item.pieces ∷ k) f → Reads s (List StrId × List Expr) (λ p j. IsPieces s.tokens s.brackets h p.0 (e ∷ p.1) j) (λ p. calls_exprs p.1) [] g k f
  pub choices : (h l : ℕ) (c e : Expr) {i : ℕ} {k : List Item} {f : Bool} → IsExpr s.tokens s.brackets h c l → Has s.tokens l token.Then → IsExpr s.tokens s.brackets (l + 1) e i → Rest s g i (item.choice_more ∷ k) f → Reads s (List ExprArm × Expr) (λ p j. IsChoices s.tokens s.brackets h (expr_arm c e ∷ p.0) p.1 j) (λ p. calls_expr_arms p.0 ++ calls_expr p.1) [] g k f
  pub suffixes : (c : PrefixEnd) (u : PrefixUse) (b : ℕ) (a : Expr) {i : ℕ} {k : List Item} {f : Bool} → Rest s g i (item.suffixes c u ∷ k) f → ReadsSuffixes s b i a c u g k f
  pub fields : {i : ℕ} {k : List Item} {f : Bool} → Rest s g i (item.fields ∷ k) f → Reads s (List Field) (λ fs j. Closed s token.CloseBrace (λ h. IsFields s.tokens s.brackets i fs h) j) calls_fields [] g k f
  pub generic : {i : ℕ} {k : List Item} {f : Bool} → Rest s g i (item.generic ∷ k) f → Passes s (Unit {0}) (λ u j. Closed s token.Greater (λ h. IsGenericList s.tokens s.brackets i h) j) g k f
  pub parameter : {i : ℕ} {k : List Item} {f : Bool} → Rest s g i (item.parameter ∷ k) f → Passes s (List StrId × Bool) (λ p j. Closed s token.CloseParen (λ h. IsParams s.tokens s.brackets i p.0 p.1 h) j) g k f
  pub block : {i : ℕ} {k : List Item} {f : Bool} → Rest s g i (item.block ∷ k) f → Reads s (List Stat) (λ b j. IsBlock s.tokens s.brackets i b j) calls_stats [] g k f
  pub targets : {i : ℕ} {k : List Item} {f : Bool} → Rest s g i (item.target ∷ k) f → Reads s (List Expr × List Expr) (λ p j. Assigns s i p.0 p.1 j) (λ p. calls_exprs p.0 ++ calls_exprs p.1) [] g k f
  pub binds : (h : ℕ) (x : StrId) {i : ℕ} {k : List Item} {f : Bool} → IsBind s.tokens s.brackets h x i → Rest s g i (item.bind_more ∷ k) f → Passes s (List StrId) (λ xs j. IsBinds s.tokens s.brackets h (x ∷ xs) j) g k f
  pub members : (b : ℕ) (x : StrId) (a : Expr) {i : ℕ} {k : List Item} {f : Bool} → Has s.tokens b (token.Name x) → ((e : Expr) (j : ℕ) → IsMembers s.tokens b i a e j → IsMembers s.tokens b (b + 1) (expr_at s.tokens b (expr.Name x)) e j) → calls_expr a ≡ [] → Rest s g i (item.members ∷ k) f → Passes s (Expr × List StrId) (λ p j. IsFunctionName s.tokens b p.0 p.1 j × (calls_expr p.0 ≡ [])) g k f
  pub arms : (h l : ℕ) (c : Expr) (b : List Stat) {i : ℕ} {k : List Item} {f : Bool} → IsExpr s.tokens s.brackets h c l → Has s.tokens l token.Then → IsBlock s.tokens s.brackets (l + 1) b i → Rest s g i (item.arm_more ∷ k) f → Reads s (List Arm × Option (List Stat)) (λ p j. IsArms s.tokens s.brackets h (arm c b ∷ p.0) p.1 j) (λ p. calls_arms p.0 ++ calls_other p.1) [] g k f
