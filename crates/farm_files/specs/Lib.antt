pub mod Serving
pub mod ServingLaws
pub mod Faults
pub mod AnsweredRacks
