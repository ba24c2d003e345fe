use Rattle.chunk_laws.proofs.Functions as functions
use Rattle.chunk_laws.proofs.laws.functions_well_formed.Goals as goal

pub returns : goal.returns
returns c = functions.function_none
