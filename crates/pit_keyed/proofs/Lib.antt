pub mod Absent
mod Each
mod Filters
pub mod CallerLemmas
