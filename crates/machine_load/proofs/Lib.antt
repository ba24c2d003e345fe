mod Begins
mod Decoding
mod Imported
mod Loads
mod Made
mod Noted
mod Started
