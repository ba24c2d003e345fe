-- A text that was there has its place; a new one is stored last.
use Rattle.std.proofs.Common.{◌≡◌, Some, slice_get, sym, subst, ap, ◌∙◌}
use Rattle.byte_text.specs.Texts.{fixed_texts, noted, AreDistinct}
use Rattle.byte_text.proofs.Numbering.{noted_present, noted_stored, noted_last, AreDistinct-noted}
use Rattle.byte_text.proofs.interner.Interner.intern.Goals as goal

pub returns-in-Some-clause-grown : goal.returns-in-Some-clause-grown
returns-in-Some-clause-grown c = noted_present c.args.self.now c.in-Some.place c.args.bytes.now c.in-Some.ensures

pub returns-clause-grown : goal.returns-clause-grown
returns-clause-grown c =
    noted_stored fixed_texts c.args.self.now c.self.inside.others.keys c.insert.new.self.keys c.in_ok-text.text c.args.bytes.now c.self.view_is c.in_default.ensures c.in_ok-text.ensures.items c.in_ok-insert.ensures.keys

pub returns-clause-ok : goal.returns-clause-ok
returns-clause-ok c =
    subst (λ texts. slice_get texts c.count-next.result ≡ Some c.args.bytes.now) (sym (returns-clause-grown c))
    (ap (slice_get (noted c.args.self.now c.args.bytes.now)) c.count-next.ensures.count ∙ noted_last c.args.self.now c.args.bytes.now c.in_default.ensures)

pub returns-clause-distinct : goal.returns-clause-distinct
returns-clause-distinct c = subst AreDistinct (sym (returns-clause-grown c)) (AreDistinct-noted c.args.self.now c.args.bytes.now c.count-next.ensures.distinct)

pub invariant_of-self-2 : goal.invariant_of-self-2
invariant_of-self-2 c = returns-clause-distinct c
