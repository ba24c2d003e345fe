use Rattle.std.proofs.Common.{sym, ◌∙◌}
use Rattle.std.proofs.lemmas.List.{take_rest}
use Rattle.whole_num.specs.NumberTexts.{is_blank}
use Rattle.whole_num.proofs.Texts.{parted_at, parted_never}
use Rattle.whole_num.proofs.reading.behind_blanks.Goals as goal

pub returns-then-not-is_blank : goal.returns-then-not-is_blank
returns-then-not-is_blank c =
    take_rest c.args.text.now c.loop-i.i ∙ sym (parted_at is_blank c.args.text.now c.loop-i.i c.loop-i.invariant c.loop-i-test.true (sym c.if-not-is_blank.ensures)).1

pub returns : goal.returns
returns c = sym (parted_never is_blank c.args.text.now c.loop-i.i c.loop-i.invariant c.loop-i-test.false).1
