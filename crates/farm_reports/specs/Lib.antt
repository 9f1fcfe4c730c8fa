pub mod Report
pub mod Writing
pub mod Grains
pub mod Rows
pub mod Named
pub mod Written
pub mod ReportLaws
