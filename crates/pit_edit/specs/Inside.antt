-- Definitions that no public contract cites.
pub mod Parts
pub mod Works
pub mod Answers
pub mod Reviews
