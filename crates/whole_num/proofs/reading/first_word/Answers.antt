use Rattle.std.proofs.Common.{sym, ap, ◌∙◌, not}
use Rattle.whole_num.specs.NumberTexts.{is_visible}
use Rattle.whole_num.proofs.Texts.{parted_at, parted_never}
use Rattle.whole_num.proofs.reading.first_word.Goals as goal

pub returns-then-is_blank-clause-word : goal.returns-then-is_blank-clause-word
returns-then-is_blank-clause-word c =
    c.split_at.ensures.front ∙ sym (parted_at is_visible c.args.text.now c.loop-i.i c.loop-i.invariant c.loop-i-test.true (ap not (sym c.if-is_blank.ensures))).0

pub returns-then-is_blank-clause-rest : goal.returns-then-is_blank-clause-rest
returns-then-is_blank-clause-rest c =
    c.split_at.ensures.back ∙ sym (parted_at is_visible c.args.text.now c.loop-i.i c.loop-i.invariant c.loop-i-test.true (ap not (sym c.if-is_blank.ensures))).1

pub returns-clause-word : goal.returns-clause-word
returns-clause-word c = sym (parted_never is_visible c.args.text.now c.loop-i.i c.loop-i.invariant c.loop-i-test.false).0

pub returns-clause-rest : goal.returns-clause-rest
returns-clause-rest c = sym (parted_never is_visible c.args.text.now c.loop-i.i c.loop-i.invariant c.loop-i-test.false).1
