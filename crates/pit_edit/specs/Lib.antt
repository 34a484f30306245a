pub mod Changes
pub mod Calls
pub mod LaidOver
pub mod EditText
pub mod Merging
pub mod Inside
