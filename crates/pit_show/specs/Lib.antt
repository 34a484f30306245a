pub mod Fronts
pub mod ShowText
pub mod Show
pub mod Inside
