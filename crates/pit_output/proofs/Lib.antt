pub mod Left
pub mod CallerLemmas
