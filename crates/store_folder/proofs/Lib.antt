pub mod Beside
pub mod Changed
pub mod Digests
pub mod Done
pub mod GoingOn
pub mod Kept
pub mod Replaced
pub mod Temporary
pub mod Written
mod Parts
