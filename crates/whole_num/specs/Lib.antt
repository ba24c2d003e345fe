pub mod Digits
pub mod Literals
pub mod NumberGrammar
pub mod NumberTexts
pub mod Quotients
pub mod Whole
