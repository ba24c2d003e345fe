use Rattle.std.proofs.Common.{ap, ◌∙◌}
use Rattle.scopes.specs.Used.{marked}
use Rattle.scopes.proofs.Marks.{marked_turn}
use Rattle.scopes.proofs.used.locals_of.Goals as goal

pub loop-note-preserved : goal.loop-note-preserved
loop-note-preserved c = marked_turn c.args.notes.now c.loop-note.note-index _ c.args.locals.now c.loop-note.infos c.mark.new.locals c.loop-note-test.true (c.mark.ensures ∙ ap (λ n. marked n c.loop-note.infos) c.note-item.is) c.loop-note.invariant
