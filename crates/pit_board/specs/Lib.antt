pub mod Prefixes
pub mod Boards
pub mod Views
pub mod Inside
