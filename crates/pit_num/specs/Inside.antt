-- Definitions that no public contract cites.
pub mod Factor
pub mod Decimal
pub mod Answers
