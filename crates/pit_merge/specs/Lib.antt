pub mod Prepared
pub mod Edits
pub mod Merge
pub mod MergedHistory
pub mod EndAlike
pub mod Inside
