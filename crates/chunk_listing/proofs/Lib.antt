mod Examples
mod InstructionsListed
mod Listed
