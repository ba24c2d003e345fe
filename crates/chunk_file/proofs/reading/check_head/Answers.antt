use Rattle.std.proofs.Common.{sym, length}
use Rattle.std.proofs.lemmas.Bool.{ltb-false}
use Rattle.chunk_file.proofs.Head.{head_starts, head_ends, head_differs, head_more}
use Rattle.chunk_file.proofs.reading.check_head.Goals as goal

pub loop-at-init : goal.loop-at-init
loop-at-init c = head_starts _

pub returns-in_default-clause-refuses : goal.returns-in_default-clause-refuses
returns-in_default-clause-refuses c =
    head_ends _ _ c.loop-at.invariant c.loop-at-test.true
    (ltb-false c.loop-at.at (length c.args.bytes.now) (sym c.in_default.ensures.lookup.0))

pub returns-then-byte-wanted-clause-refuses : goal.returns-then-byte-wanted-clause-refuses
returns-then-byte-wanted-clause-refuses c =
    let found = c.in-Some.ensures.lookup.3 in
    head_differs _ _ c.in-Some.byte.now c.loop-at.invariant c.loop-at-test.true found.0 (sym (found.1 0)) c.if-byte-wanted.true

pub loop-at-preserved : goal.loop-at-preserved
loop-at-preserved c =
    let found = c.in-Some.ensures.lookup.3 in
    head_more _ _ c.in-Some.byte.now c.loop-at.invariant c.loop-at-test.true found.0 (sym (found.1 0)) c.if-byte-wanted.false
