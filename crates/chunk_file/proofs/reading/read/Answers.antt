use Rattle.chunk_file.proofs.Saying.{bytes_are, says}
use Rattle.chunk_file.proofs.reading.read.Goals as goal

pub returns-clause-says : goal.returns-clause-says
returns-clause-says c = says c.args.bytes.now c.read_fields.result (bytes_are c.args.bytes.now (λ i. (c.type_inv.bytes i).fits)) c.read_fields.ensures.reads
