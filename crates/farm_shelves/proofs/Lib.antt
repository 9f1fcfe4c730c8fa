pub mod Put
pub mod Fronts
