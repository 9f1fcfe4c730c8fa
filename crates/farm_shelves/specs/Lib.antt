pub mod Ahead
pub mod Files
pub mod Folder
pub mod Memory
pub mod ReadAhead
pub mod Sized
