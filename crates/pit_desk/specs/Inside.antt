-- Definitions that no public contract cites.
pub mod Calls
pub mod Least
