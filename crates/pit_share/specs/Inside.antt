-- Definitions that no public contract cites.
pub mod Closing
pub mod Floors
pub mod Places
