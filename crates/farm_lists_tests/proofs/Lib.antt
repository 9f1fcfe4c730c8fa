pub mod SmallLanes
