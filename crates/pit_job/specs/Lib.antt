pub mod Shifts
pub mod Cones
pub mod Effect
pub mod Carried
pub mod Outcomes
pub mod Runs
pub mod JobByJob
pub mod Inside
