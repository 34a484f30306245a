-- Definitions that no public contract cites.
pub mod Threads
pub mod Sessions
