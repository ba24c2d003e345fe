use Rattle.std.proofs.Common.{◌≡◌, ◌++◌, List, ℕ, refl, sym, ap, ◌∙◌}
use Rattle.std.specs.Prelude.{codes}
use Rattle.std.proofs.lemmas.List.{append_assoc}
use Rattle.value_model.specs.declared.kind.Kind.{Kind}
use Rattle.value_model.specs.declared.operator.ArithOp.{ArithOp}
use Rattle.value_model.specs.declared.operator.ArithOp.TheVariants as op
use Rattle.value_model.specs.Values.{kind_name}
use Rattle.value_model.specs.Errors.{operands, operator_name, error_text}
use Rattle.value_model.proofs.Pieces.{both, reads}
use Rattle.value_model.proofs.error.arithmetic.Goals as goal

-- every operator but minus has two operands
two_operands : (o : ArithOp) (t u : Kind) → (o ≡ op.Unm → ⊥) → kind_name t ++ codes " and " ++ kind_name u ≡ operands o t u
two_operands op.Add t u h = refl
two_operands op.Sub t u h = refl
two_operands op.Mul t u h = refl
two_operands op.Div t u h = refl
two_operands op.Idiv t u h = refl
two_operands op.Mod t u h = refl
two_operands op.Pow t u h = refl
two_operands op.Unm t u h = absurd (h refl)

regrouped : (a t x u : List ℕ) → ((a ++ t) ++ x) ++ u ≡ a ++ ((t ++ x) ++ u)
regrouped a t x u = ap (λ l. l ++ u) (append_assoc a t x) ∙ append_assoc a (t ++ x) u

pub returns-in-Unm : goal.returns-in-Unm
unfolding error_text
returns-in-Unm c =
    let front = both (both c.as_bytes.ensures.value (c.as_bytes-in-Unm.ensures.value ∙ c.name.ensures)) c.as_bytes-in-Unm-2.ensures.value in
    let operand = c.as_bytes-in-Unm-3.ensures.value ∙ c.name-in-Unm.ensures ∙ sym (ap (λ o. operands o c.args.left c.args.right) c.in-Unm.is) in
    reads c.joined.result c.joined.ensures (both front operand)

pub returns-in_default : goal.returns-in_default
unfolding error_text
returns-in_default c =
    let front = both (both c.as_bytes-in_default.ensures.value (c.as_bytes-in_default-2.ensures.value ∙ c.name-in_default.ensures)) c.as_bytes-in_default-3.ensures.value in
    let left = c.as_bytes-in_default-4.ensures.value ∙ c.name-in_default-2.ensures in
    let right = c.as_bytes-in_default-6.ensures.value ∙ c.name-in_default-3.ensures in
    reads c.joined-in_default.result c.joined-in_default.ensures
    (both (both (both front left) c.as_bytes-in_default-5.ensures.value) right
    ∙ regrouped (codes "attempt to perform arithmetic (" ++ operator_name c.args.operator ++ codes ") on ") (kind_name c.args.left) (codes " and ") (kind_name c.args.right)
    ∙ ap (λ t. (codes "attempt to perform arithmetic (" ++ operator_name c.args.operator ++ codes ") on ") ++ t) (two_operands c.args.operator c.args.left c.args.right c.in_default.not-Unm))
