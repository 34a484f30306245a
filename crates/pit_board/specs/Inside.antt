-- Definitions that no public contract cites.
pub mod Prefixes
pub mod Boards
pub mod Books
pub mod Slots
pub mod BoardRule
