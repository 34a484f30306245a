pub mod Sums
pub mod Schedule
pub mod Standing
pub mod Breaches
pub mod Shortfalls
pub mod Limits
pub mod Inside
