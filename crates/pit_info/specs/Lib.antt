pub mod Figures
pub mod Unknown
pub mod LongestRuns
pub mod InfoText
pub mod Info
pub mod Inside
