mod Begun
mod Starts
