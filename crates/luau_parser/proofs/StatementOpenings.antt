-- A token that begins no statement.
use Rattle.std.proofs.Common.{◌≡◌, ℕ, List, sym, ap, ◌∙◌, ◌⊎◌, inl, inr, Err}
use Rattle.byte_text.specs.declared.StrId.{StrId}
use Rattle.syntax_tree.specs.declared.token.Token.{Token}
use Rattle.syntax_tree.specs.Places.{kind_at}
use Rattle.parse_steps.specs.declared.classes.Opening.{Opening}
use Rattle.parse_steps.specs.declared.classes.Opening.TheVariants as opens
use Rattle.parse_steps.specs.Classes.{opening}
use Rattle.parse_steps.specs.Turns.{block_turn}
use Rattle.expression_parser.specs.declared.fault.Fault.TheVariants as fault
use Rattle.luau_parser.specs.Statements.{IsNoName, FindsStat}
use Rattle.expression_parser.proofs.Leading.{stuck_here}

-- what opens no statement, or one that is read by another rule
abbrev pub OpensNone : Opening → Type 0
OpensNone o = (o ≡ opens.Ends) ⊎ ((o ≡ opens.Return) ⊎ ((o ≡ opens.Break) ⊎ (((x : StrId) × (o ≡ opens.Name x)) ⊎ (o ≡ opens.Nothing))))

pub no_statement : (ts : List Token) (room i : ℕ) (o : Opening) → o ≡ opening (kind_at ts i) → IsNoName ts i → OpensNone o
    → FindsStat ts room i (Err (fault.Unexpected i))
no_statement ts room i o same other (inl e) = absurd (other.0 (sym same ∙ e))
no_statement ts room i o same other (inr (inl e)) = absurd (other.1 (sym same ∙ e))
no_statement ts room i o same other (inr (inr (inl e))) = absurd (other.2 (sym same ∙ e))
no_statement ts room i o same other (inr (inr (inr (inl e)))) = absurd (other.3 e.0 (sym same ∙ e.1))
no_statement ts room i o same other (inr (inr (inr (inr e)))) = λ v k deep. stuck_here
    (ap (λ (x : Opening). block_turn x v k) (sym same ∙ e)) (λ clash. absurd cc)
