-- What a fold gives at the nodes of a numbered tree, by what it gives at the nodes of the tree.
use Rattle.std.proofs.Common.{◌≡◌, ℕ, List, [], ◌∷◌, map, refl, sym, ap, ◌∙◌}
use Rattle.syntax_tree.specs.declared.tree.ExprKind.{ExprKind, roll-ExprKind}
use Rattle.syntax_tree.specs.declared.tree.FieldKind.{FieldKind, roll-FieldKind}
use Rattle.syntax_tree.specs.declared.tree.StatKind.{StatKind, roll-StatKind}
use Rattle.syntax_tree.specs.declared.tree.Arm.{Arm, roll-Arm}
use Rattle.syntax_tree.specs.declared.tree.Expr.{Expr, roll-Expr}
use Rattle.syntax_tree.specs.declared.tree.ExprArm.{ExprArm, roll-ExprArm}
use Rattle.syntax_tree.specs.declared.tree.Field.{Field, roll-Field}
use Rattle.syntax_tree.specs.declared.tree.FuncBody.{FuncBody, roll-FuncBody}
use Rattle.syntax_tree.specs.declared.tree.Stat.{Stat, roll-Stat}
use Rattle.syntax_tree.specs.declared.tree.ExprKind.TheOpen.{Expr-F, FuncBody-F, Stat-F}
use Rattle.syntax_tree.specs.Fold.{Steps, at_arm, at_expr, at_expr_arm, at_field, at_func, at_stat}
use Rattle.syntax_tree.specs.Numbers.{Numbering, list, numbered_func}
use Rattle.syntax_tree.specs.Numbers as number
use Rattle.luau_parser.proofs.TreeInduction.{With}
use Rattle.luau_parser.proofs.TreeLevels as levels
use Rattle.luau_parser.proofs.TreeLevels.{at_kind, at_field_kind, at_stat_kind, ExprKindNode, FieldKindNode, StatKindNode, ArmNode, ExprNode, ExprArmNode, FieldNode, FuncBodyNode, StatNode}

-- ---- the numberings of all parts

abbrev number_steps : Steps (Numbering ExprKind) (Numbering FieldKind) (Numbering StatKind) (Numbering Arm) (Numbering Expr)
    (Numbering ExprArm) (Numbering Field) (Numbering FuncBody) (Numbering Stat)
number_steps =
    record {
      kind = number.expr_kind;
      field_kind = number.field_kind;
      stat_kind = number.stat_kind;
      arm = number.arm_level;
      expr = number.expr_level;
      expr_arm = number.expr_arm_level;
      field = number.field_level;
      func = number.func_level;
      stat = number.stat_level;
    }

abbrev pub number_kind : ExprKind → Numbering ExprKind
number_kind = at_kind number_steps

abbrev pub number_field_kind : FieldKind → Numbering FieldKind
number_field_kind = at_field_kind number_steps

abbrev pub number_stat_kind : StatKind → Numbering StatKind
number_stat_kind = at_stat_kind number_steps

abbrev pub number_arm : Arm → Numbering Arm
number_arm = at_arm number_steps

abbrev pub number_expr : Expr → Numbering Expr
number_expr = at_expr number_steps

abbrev pub number_expr_arm : ExprArm → Numbering ExprArm
number_expr_arm = at_expr_arm number_steps

abbrev pub number_field : Field → Numbering Field
number_field = at_field number_steps

abbrev pub number_func : FuncBody → Numbering FuncBody
number_func = numbered_func

abbrev pub number_stat : Stat → Numbering Stat
number_stat = at_stat number_steps

-- the parts without what holds of them
abbrev pub bare : {X : Type 0} {P : X → Type 0} → List (With P) → List X
bare = map (λ z. z.0)

-- of a list
pub list_keeps : {X Y : Type 0} (gives : X → Y) (number : X → Numbering X)
    (es : List (With (λ (x : X). (n : ℕ) → gives (number x n).0 ≡ gives x))) (n : ℕ) →
    map gives (list (map number (bare es)) n).0 ≡ map gives (bare es)
list_keeps gives number [] n = refl
list_keeps gives number (e ∷ es) n = let rest = list_keeps gives number es (number e.0 n).1 in λ d. e.1 n d ∷ rest d

-- what a fold gives at a node is the same with any number
pub record IgnoresNumbers {K L M A E X F B S : Type 0} (s : Steps K L M A E X F B S) : Type 0 where
  pub expr : (e : Expr-F K L M A E X F B S) (n : ℕ) → s.expr (record { id = n; at = e.at; line = e.line; kind = e.kind }) ≡ s.expr e
  pub func : (f : FuncBody-F K L M A E X F B S) (n : ℕ) →
      s.func (record { id = n; at = f.at; line = f.line; params = f.params; vararg = f.vararg; body = f.body }) ≡ s.func f
  pub stat : (t : Stat-F K L M A E X F B S) (n : ℕ) → s.stat (record { id = n; at = t.at; line = t.line; kind = t.kind }) ≡ s.stat t

module _ {K L M A E X F B S : Type 0} (s : Steps K L M A E X F B S) where
  -- ---- where the parts of a node x, once numbered, make the node y, and these two give the same, so do their trees

  pub kind_alike : (x y : ExprKindNode) (n : ℕ) → roll-ExprKind y ≡ (number.expr_kind (levels.kind_level number_steps x) n).0 →
      s.kind (levels.kind_level s y) ≡ s.kind (levels.kind_level s x) →
      at_kind s (number_kind (roll-ExprKind x) n).0 ≡ at_kind s (roll-ExprKind x)
  kind_alike x y n built alike =
      ap (λ f. at_kind s (f n).0) (levels.kind_is number_steps x) ∙ ap (at_kind s) (sym built)
      ∙ levels.kind_is s y ∙ alike ∙ sym (levels.kind_is s x)

  pub field_kind_alike : (x y : FieldKindNode) (n : ℕ) → roll-FieldKind y ≡ (number.field_kind (levels.field_kind_level number_steps x) n).0 →
      s.field_kind (levels.field_kind_level s y) ≡ s.field_kind (levels.field_kind_level s x) →
      at_field_kind s (number_field_kind (roll-FieldKind x) n).0 ≡ at_field_kind s (roll-FieldKind x)
  field_kind_alike x y n built alike =
      ap (λ f. at_field_kind s (f n).0) (levels.field_kind_is number_steps x) ∙ ap (at_field_kind s) (sym built)
      ∙ levels.field_kind_is s y ∙ alike ∙ sym (levels.field_kind_is s x)

  pub stat_kind_alike : (x y : StatKindNode) (n : ℕ) → roll-StatKind y ≡ (number.stat_kind (levels.stat_kind_level number_steps x) n).0 →
      s.stat_kind (levels.stat_kind_level s y) ≡ s.stat_kind (levels.stat_kind_level s x) →
      at_stat_kind s (number_stat_kind (roll-StatKind x) n).0 ≡ at_stat_kind s (roll-StatKind x)
  stat_kind_alike x y n built alike =
      ap (λ f. at_stat_kind s (f n).0) (levels.stat_kind_is number_steps x) ∙ ap (at_stat_kind s) (sym built)
      ∙ levels.stat_kind_is s y ∙ alike ∙ sym (levels.stat_kind_is s x)

  pub arm_alike : (x y : ArmNode) (n : ℕ) → roll-Arm y ≡ (number.arm_level (levels.arm_level number_steps x) n).0 →
      s.arm (levels.arm_level s y) ≡ s.arm (levels.arm_level s x) →
      at_arm s (number_arm (roll-Arm x) n).0 ≡ at_arm s (roll-Arm x)
  arm_alike x y n built alike =
      ap (λ f. at_arm s (f n).0) (levels.arm_is number_steps x) ∙ ap (at_arm s) (sym built)
      ∙ levels.arm_is s y ∙ alike ∙ sym (levels.arm_is s x)

  pub expr_alike : (x y : ExprNode) (n : ℕ) → roll-Expr y ≡ (number.expr_level (levels.expr_level number_steps x) n).0 →
      s.expr (levels.expr_level s y) ≡ s.expr (levels.expr_level s x) →
      at_expr s (number_expr (roll-Expr x) n).0 ≡ at_expr s (roll-Expr x)
  expr_alike x y n built alike =
      ap (λ f. at_expr s (f n).0) (levels.expr_is number_steps x) ∙ ap (at_expr s) (sym built)
      ∙ levels.expr_is s y ∙ alike ∙ sym (levels.expr_is s x)

  pub expr_arm_alike : (x y : ExprArmNode) (n : ℕ) → roll-ExprArm y ≡ (number.expr_arm_level (levels.expr_arm_level number_steps x) n).0 →
      s.expr_arm (levels.expr_arm_level s y) ≡ s.expr_arm (levels.expr_arm_level s x) →
      at_expr_arm s (number_expr_arm (roll-ExprArm x) n).0 ≡ at_expr_arm s (roll-ExprArm x)
  expr_arm_alike x y n built alike =
      ap (λ f. at_expr_arm s (f n).0) (levels.expr_arm_is number_steps x) ∙ ap (at_expr_arm s) (sym built)
      ∙ levels.expr_arm_is s y ∙ alike ∙ sym (levels.expr_arm_is s x)

  pub field_alike : (x y : FieldNode) (n : ℕ) → roll-Field y ≡ (number.field_level (levels.field_level number_steps x) n).0 →
      s.field (levels.field_level s y) ≡ s.field (levels.field_level s x) →
      at_field s (number_field (roll-Field x) n).0 ≡ at_field s (roll-Field x)
  field_alike x y n built alike =
      ap (λ f. at_field s (f n).0) (levels.field_is number_steps x) ∙ ap (at_field s) (sym built)
      ∙ levels.field_is s y ∙ alike ∙ sym (levels.field_is s x)

  pub func_alike : (x y : FuncBodyNode) (n : ℕ) → roll-FuncBody y ≡ (number.func_level (levels.func_level number_steps x) n).0 →
      s.func (levels.func_level s y) ≡ s.func (levels.func_level s x) →
      at_func s (number_func (roll-FuncBody x) n).0 ≡ at_func s (roll-FuncBody x)
  func_alike x y n built alike =
      ap (λ f. at_func s (f n).0) (levels.func_is number_steps x) ∙ ap (at_func s) (sym built)
      ∙ levels.func_is s y ∙ alike ∙ sym (levels.func_is s x)

  pub stat_alike : (x y : StatNode) (n : ℕ) → roll-Stat y ≡ (number.stat_level (levels.stat_level number_steps x) n).0 →
      s.stat (levels.stat_level s y) ≡ s.stat (levels.stat_level s x) →
      at_stat s (number_stat (roll-Stat x) n).0 ≡ at_stat s (roll-Stat x)
  stat_alike x y n built alike =
      ap (λ f. at_stat s (f n).0) (levels.stat_is number_steps x) ∙ ap (at_stat s) (sym built)
      ∙ levels.stat_is s y ∙ alike ∙ sym (levels.stat_is s x)
