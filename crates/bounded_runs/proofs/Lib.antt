pub mod OneReport
pub mod Together
