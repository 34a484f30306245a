pub mod LegalText
pub mod Runs
pub mod OneReplay
pub mod CallerLemmas
