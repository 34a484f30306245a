-- Definitions that no public contract cites.
pub mod BlockSet
pub mod CoefficientRows
pub mod Laid
pub mod Places
pub mod PredecessorRows
pub mod Profits
