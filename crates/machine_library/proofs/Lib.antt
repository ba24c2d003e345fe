pub mod Asked
pub mod Answering
pub mod InPlace
pub mod Kept
pub mod Leading
pub mod Resumed
