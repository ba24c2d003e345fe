use Rattle.chunk_listing.proofs.InstructionsListed.{lists_instructions}
use Rattle.chunk_listing.proofs.laws.lists_instructions.Goals as goal

pub returns : goal.returns
returns c = lists_instructions
