pub mod Totals
pub mod Counts
pub mod Bounds
pub mod OneMore
pub mod Adding
pub mod Pieces
pub mod Tabled
pub mod Outcome
