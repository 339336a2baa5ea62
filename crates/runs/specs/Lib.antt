pub mod Runs
pub mod Sight
pub mod Turns
pub mod Schedules
