-- Definitions that no public contract cites.
pub mod Parts
pub mod Begun
