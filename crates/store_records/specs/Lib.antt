pub mod Descriptions
pub mod Laws
pub mod ReadLines
pub mod SumLines
pub mod Sums
