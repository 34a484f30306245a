pub mod LiveStarts
pub mod LiveFiles
pub mod Notices
pub mod Sittings
pub mod Sat
pub mod Live
pub mod LiveHistory
pub mod Inside
