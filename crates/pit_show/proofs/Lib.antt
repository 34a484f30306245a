pub mod Fronts
pub mod Mined
pub mod Schedules
pub mod Sums
pub mod OneFront
pub mod Outcome
pub mod Written
pub mod CallerLemmas
