-- Definitions that no public contract cites.
pub mod Plan
pub mod Schedule
pub mod Touched
pub mod Limits
pub mod Totals
pub mod CellLists
