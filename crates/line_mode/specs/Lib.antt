pub mod Line
pub mod Parts
pub mod LineReply
pub mod Replies
pub mod LineMode
pub mod Laws
