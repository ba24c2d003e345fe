use Rattle.chunk_file.proofs.FilesCut.{beginnings}
use Rattle.chunk_file.proofs.FilesRead.{spellings, trailings}
use Rattle.chunk_file.proofs.laws.reads_spellings.Goals as goal

pub returns-clause-chunks : goal.returns-clause-chunks
returns-clause-chunks c = spellings

pub returns-clause-beginnings : goal.returns-clause-beginnings
returns-clause-beginnings c = beginnings

pub returns-clause-trailing : goal.returns-clause-trailing
returns-clause-trailing c = trailings
