pub mod Shown
pub mod Store
pub mod Kept
pub mod Changed
pub mod Stripes
pub mod Memory
