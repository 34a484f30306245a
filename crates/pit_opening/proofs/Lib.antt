mod OneBeginning
mod OneOpening
pub mod CallerLemmas
