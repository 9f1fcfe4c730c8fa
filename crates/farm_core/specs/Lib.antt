pub use Rattle.farm_orders.specs.Limits
pub use Rattle.farm_orders.specs.Orders
pub use Rattle.farm_orders.specs.FedLists
pub use Rattle.farm_threads.specs.Expected
pub use Rattle.farm_threads.specs.Merge
pub use Rattle.farm_threads.specs.Replies
pub mod Ready
