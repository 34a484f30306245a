pub mod Rows
pub mod CsvText
pub mod Table
pub mod Inside
