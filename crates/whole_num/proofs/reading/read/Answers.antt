use Rattle.std.proofs.Common.{length, sym}
use Rattle.std.proofs.lemmas.Bool.{eqb-true, eqb-false}
use Rattle.whole_num.specs.declared.literal.Read.TheVariants as read
use Rattle.whole_num.proofs.Texts.{word_read, no_word, computed_reads, reads_once}
use Rattle.whole_num.proofs.reading.read.Goals as goal

pub returns-then-is_empty-clause-value : goal.returns-then-is_empty-clause-value
returns-then-is_empty-clause-value c =
    let left = c.behind_blanks-2.result.now in
    word_read c.args.bytes.now c.behind_blanks.result.now c.first_word.result.0.now c.first_word.result.1.now left c.signed.result c.behind_blanks.ensures c.first_word.ensures.word c.first_word.ensures.rest c.behind_blanks-2.ensures (eqb-true (length left) 0 (sym c.if-is_empty.ensures)) c.signed.ensures

pub returns-then-is_empty-clause-reads : goal.returns-then-is_empty-clause-reads
returns-then-is_empty-clause-reads c = computed_reads c.args.bytes.now c.signed.result (returns-then-is_empty-clause-value c)

pub returns-then-is_empty-clause-only : goal.returns-then-is_empty-clause-only
returns-then-is_empty-clause-only c =
    λ other h. reads_once c.args.bytes.now other c.signed.result (returns-then-is_empty-clause-value c) h

pub returns-else-is_empty-clause-value : goal.returns-else-is_empty-clause-value
returns-else-is_empty-clause-value c =
    let left = c.behind_blanks-2.result.now in
    no_word c.args.bytes.now c.behind_blanks.result.now c.first_word.result.0.now c.first_word.result.1.now left c.behind_blanks.ensures c.first_word.ensures.word c.first_word.ensures.rest c.behind_blanks-2.ensures (eqb-false (length left) 0 (sym c.if-is_empty.ensures))

pub returns-else-is_empty-clause-reads : goal.returns-else-is_empty-clause-reads
returns-else-is_empty-clause-reads c = computed_reads c.args.bytes.now read.NotNumber (returns-else-is_empty-clause-value c)

pub returns-else-is_empty-clause-only : goal.returns-else-is_empty-clause-only
returns-else-is_empty-clause-only c =
    λ other h. reads_once c.args.bytes.now other read.NotNumber (returns-else-is_empty-clause-value c) h
