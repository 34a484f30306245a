pub mod Changes
pub mod Laid
pub mod DiffText
pub mod Diff
pub mod Inside
