use Rattle.std.proofs.Common.{sym, ◌∙◌, ap, ◌∷◌, arith}
use Rattle.chunk_file.proofs.NumberRead.{number_starts, number_ends, number_goes_on}
use Rattle.chunk_file.proofs.reader.Reader.number.Goals as goal

pub loop-place-init : goal.loop-place-init
loop-place-init c = number_starts _

pub returns-then-byte-ne0 : goal.returns-then-byte-ne0
returns-then-byte-ne0 c =
    number_ends _ _ _ _ _ _ _ c.from-byte.result c.loop-place.invariant c.loop-place-test.true
    (c.in-Some.ensures ∙ ap (λ b. b ∷ c.next.new.self) (sym c.from-byte.ensures))
    c.if-byte-lt128.true c.if-byte-limit.true c.if-byte-ne0.either

pub loop-place-preserved : goal.loop-place-preserved
loop-place-preserved c =
    number_goes_on _ _ _ _ _ _ _ c.from-byte.result c.loop-place.invariant c.loop-place-test.true
    (c.in-Some.ensures ∙ ap (λ b. b ∷ c.next.new.self) (sym c.from-byte.ensures))
    c.if-byte-lt128.false (omega arith) c.if-limit-le128.false
