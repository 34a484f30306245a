pub mod CallerLemmas
pub mod Prefixes
pub mod Commits
pub mod Lawful
pub mod Slots
pub mod Adding
pub mod BoardRule
pub mod Publishing
