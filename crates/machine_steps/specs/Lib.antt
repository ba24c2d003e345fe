pub mod Ready
pub mod Courses
pub mod Groups
pub mod Laws
