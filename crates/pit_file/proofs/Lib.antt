pub mod CallerLemmas
pub mod Gathering
pub mod Known
pub mod Outputs
pub mod Refusals
