pub mod States
pub mod Entries
pub mod OneState
pub mod Stops
pub mod Viewed
pub mod CallerLemmas
