pub mod Limits
pub mod Pairs
pub mod Reading
pub mod Faults
pub mod Causes
pub mod Ahead
pub mod Pieces
pub mod FarmFaults
