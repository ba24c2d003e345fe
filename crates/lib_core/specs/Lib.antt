pub mod Asking
pub mod Builtins
pub mod Items
pub mod MetaGiven
pub mod Numbers
pub mod Places
