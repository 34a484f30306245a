pub mod Pit
pub mod Fitting
pub mod BlockSet
pub mod Refusals
pub mod Tightest
pub mod Inside
