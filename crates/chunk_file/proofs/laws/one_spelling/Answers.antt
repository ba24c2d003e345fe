use Rattle.chunk_file.proofs.FilesCut.{one_chunk, no_prefix}
use Rattle.chunk_file.proofs.laws.one_spelling.Goals as goal

pub returns-clause-one : goal.returns-clause-one
returns-clause-one c = one_chunk

pub returns-clause-prefix : goal.returns-clause-prefix
returns-clause-prefix c = no_prefix
