-- Definitions that no public contract cites.
pub mod Draft
pub mod Unlisted
pub mod Cutting
pub mod Plain
pub mod PlainFacts
pub mod Solution
pub mod SolutionText
pub mod Stands
