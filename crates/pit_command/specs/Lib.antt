pub mod Limits
pub mod Asked
pub mod Command
pub mod Inputs
pub mod Pairs
pub mod Words
