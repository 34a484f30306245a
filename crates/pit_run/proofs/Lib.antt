pub mod Threading
pub mod ByPlanner
pub mod Turns
pub mod OwnTurn
pub mod SameEnds
pub mod Closing
pub mod CallerLemmas
