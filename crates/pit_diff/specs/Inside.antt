pub mod Table
pub mod Cells
