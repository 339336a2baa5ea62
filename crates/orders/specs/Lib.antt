pub mod Moments
pub mod Orders
pub mod Advance
pub mod Cancel
pub mod Timer
