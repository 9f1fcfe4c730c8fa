pub mod Synchronous
