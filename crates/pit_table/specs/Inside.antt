-- Definitions that no public contract cites.
pub mod Mined
pub mod OfCommits
