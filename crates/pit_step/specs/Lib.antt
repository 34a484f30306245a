pub mod Steps
pub mod Devices
pub mod Inputs
pub mod Statuses
pub mod LineTexts
pub mod RefusalText
