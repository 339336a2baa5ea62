pub mod Calls
pub mod Pools
pub mod Refusals
