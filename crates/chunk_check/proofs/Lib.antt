mod Decoding
mod Ends
mod First
mod Folds
mod Words
