-- Definitions that no public contract cites.
pub mod Doing
pub mod Outcomes
pub mod Runs
pub mod Walking
