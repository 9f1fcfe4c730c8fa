pub mod Digests
pub mod Names
pub mod Own
pub mod Replaced
pub mod Taken
pub mod Encoded
