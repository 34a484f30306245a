pub mod Beginnings
pub mod Openings
pub mod Inside
