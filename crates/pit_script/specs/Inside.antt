-- Definitions that no public contract cites.
pub mod Kept
pub mod Parts
pub mod Benches
pub mod Ranges
