pub mod Keyed
pub mod Inside
