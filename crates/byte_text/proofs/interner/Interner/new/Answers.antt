-- The fixed texts differ, and nothing is stored.
use Rattle.std.proofs.Common.{◌++◌, sym, subst}
use Rattle.byte_text.specs.Texts.{fixed_texts, AreDistinct}
use Rattle.byte_text.proofs.Numbering.{items_of, AreDistinct-fixed}
use Rattle.byte_text.proofs.interner.Interner.new.Goals as goal

pub invariant_of-result : goal.invariant_of-result
invariant_of-result c = subst (λ stored. AreDistinct (fixed_texts ++ items_of stored)) (sym c.new.ensures.empty) AreDistinct-fixed
