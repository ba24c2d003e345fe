pub mod Declares
pub mod Sight
pub mod Captured
pub mod Declared
pub mod Laws
