pub mod Breaches
pub mod Outs
pub mod AllText
pub mod CheckAll
