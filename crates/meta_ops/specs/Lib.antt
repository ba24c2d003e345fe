pub mod OnIds
pub mod Outcomes
