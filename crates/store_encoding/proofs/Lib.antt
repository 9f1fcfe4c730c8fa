pub mod Digests
pub mod Encoded
pub mod HaveGot
pub mod Names
pub mod Order
pub mod Replaced
pub mod Sums
pub mod Taken
