pub mod Answers
pub mod Counting
pub mod Laws
pub mod Reading
pub mod Spelling
