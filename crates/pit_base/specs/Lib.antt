pub mod Marks
pub mod Bases
pub mod Held
pub mod Again
pub mod Inside
