pub mod States
pub mod Views
