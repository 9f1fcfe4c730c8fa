pub mod Places
pub mod Saying
pub mod Texts
