pub mod InputLines
pub mod AnsweredLines
pub mod Turning
pub mod OneTurn
pub mod Heard
pub mod Showing
pub mod Entering
pub mod CallerLemmas
