-- What `resolve` answers, put together of what its parts say.
use Rattle.std.proofs.Common.{◌≡◌, ◌∙◌, ◌++◌, List, [], Some, append_assoc, sym, ap, ap₂, subst}
use Rattle.std.specs.declared.result.Result.TheVariants.{Ok, Err}
use Rattle.syntax_tree.specs.declared.bindings.Bindings.{Bindings}
use Rattle.syntax_tree.specs.declared.fault.ScopeFault.{ScopeFault}
use Rattle.syntax_tree.specs.declared.tree.Tree.{Tree}
use Rattle.syntax_tree.specs.Bound as spec
use Rattle.syntax_tree.specs.Faults.{IsFirst}
use Rattle.syntax_tree.specs.Names.{Known}
use Rattle.syntax_tree.specs.Rules.{rules_func}
use Rattle.syntax_tree.specs.Sizes.{all_sizes}
use Rattle.scopes.specs.Refused.{Answers, Refuses, fault_of}
use Rattle.scopes.specs.declared.error.ScopeErr.{ScopeErr}
use Rattle.scopes.specs.declared.error.ScopeErr.TheVariants as refusal

pub want : (tree : Tree) (e : ScopeErr) → e ≡ refusal.OutOfMemory → Answers tree (Err e)
want tree e h = subst (λ x. Refuses tree (fault_of x)) (sym h) tt

-- all faults are those of the names, then those of what stands where, then those of the sizes
pub all_faults : (tree : Tree) (k : Known) (b : Bindings) (f1 f2 f3 : List ScopeFault) → k ≡ spec.known tree → b ≡ spec.bindings_of k → f1 ≡ k.faults → f2 ≡ f1 ++ rules_func tree.main → f3 ≡ f2 ++ all_sizes b tree.main → f3 ≡ spec.faults tree
all_faults tree k b f1 f2 f3 p q r s t =
    t ∙ ap₂ (λ x y. x ++ all_sizes y tree.main) (s ∙ ap (λ l. l ++ rules_func tree.main) (r ∙ ap (λ (z : Known). z.faults) p)) (q ∙ ap spec.bindings_of p)
    ∙ append_assoc (spec.known tree).faults (rules_func tree.main) (all_sizes (spec.bound tree) tree.main)

pub refuses : (tree : Tree) (e : ScopeErr) (fault : ScopeFault) (all : List ScopeFault) → fault_of e ≡ Some fault → all ≡ spec.faults tree → IsFirst all fault → Answers tree (Err e)
refuses tree e fault all p q h = subst (λ o. Refuses tree o) (sym p) (subst (λ l. IsFirst l fault) q h)

pub accepts : (tree : Tree) (k : Known) (b : Bindings) (all : List ScopeFault) → k ≡ spec.known tree → b ≡ spec.bindings_of k → all ≡ spec.faults tree → all ≡ [] → Answers tree (Ok b)
accepts tree k b all p q r s = (sym r ∙ s, q ∙ ap spec.bindings_of p)
