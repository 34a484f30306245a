pub mod CheckText
pub mod Value
pub mod Check
pub mod Replay
