-- Definitions that no public contract cites.
pub mod Reports
pub mod Runner
pub mod Shared
pub mod Threads
pub mod Turns
