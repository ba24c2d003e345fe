pub mod Fast
pub mod Homes
pub mod Leads
