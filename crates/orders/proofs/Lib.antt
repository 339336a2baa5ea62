pub mod Walks
pub mod Tables
pub mod Places
pub mod Cancelling
pub mod Nearest
pub mod Life
pub mod Timer
pub mod Schedule
