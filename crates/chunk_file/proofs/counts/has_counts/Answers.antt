use Rattle.op_words.specs.Chunks.{chunk_of}
use Rattle.chunk_file.proofs.Counted.{counted}
use Rattle.chunk_file.proofs.counts.has_counts.Goals as goal

pub returns : goal.returns
returns c = counted (chunk_of c.args.chunk.now) c.chunk_counts.result c.chunk_counts.ensures
