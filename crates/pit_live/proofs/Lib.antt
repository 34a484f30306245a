pub mod SittingLines
pub mod Threading
pub mod Telling
pub mod OneLive
pub mod Carrying
pub mod Served
pub mod Finishing
