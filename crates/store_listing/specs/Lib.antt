pub mod Names
pub mod Stripes
pub mod Votes
