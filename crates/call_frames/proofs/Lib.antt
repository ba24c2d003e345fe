pub mod Searching
pub mod Closing
pub mod Capturing
pub mod Live
pub mod Keeping
pub mod Innermost
pub mod Ending
