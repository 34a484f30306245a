pub mod Pieces
pub mod Counted
pub mod First
pub mod FirstBreach
pub mod Found
pub mod Outcome
