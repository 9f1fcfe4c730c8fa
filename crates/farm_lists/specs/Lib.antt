pub mod Listed
pub mod Listing
pub mod Views
pub mod Requests
pub mod Names
pub mod Parts
