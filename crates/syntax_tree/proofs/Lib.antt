pub mod Capped
pub mod Loops
pub mod NumericLoops
pub mod ProperForms
