pub mod Parts
pub mod Five
pub mod Fuel
pub mod RecordFields
pub mod Orders
