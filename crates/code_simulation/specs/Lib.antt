pub mod Slots
pub mod Relation
pub mod Laws
