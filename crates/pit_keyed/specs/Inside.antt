-- Definitions that no public contract cites.
pub mod Filter
pub mod Hashing
