pub mod Onward
pub mod HasReport
