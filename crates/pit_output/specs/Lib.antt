pub mod Outputs
pub mod OutputTexts
