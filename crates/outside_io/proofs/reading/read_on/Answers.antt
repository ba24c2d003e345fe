use Rattle.std.proofs.Common.{rules, arith}
use Rattle.std.proofs.lemmas.Option.{IfSome_then}
use Rattle.outside_io.proofs.Fronts.{reads_on}
use Rattle.outside_io.proofs.reading.read_on.Goals as goal

pub returns-clause-told : goal.returns-clause-told
returns-clause-told g c =
    IfSome_then (g.F.Files.contents c.args.files.now) c.in_ok-count.ensures.told
    (λ told reads. reads_on (told c.args.name.now) c.args.bytes.now.items c.args.piece.now _ _ c.len.result c.in_ok-count.count
    (search rules) reads (omega (arith, c.in_ok-count.ensures.bound)) c.requires (search rules))
