pub mod Deciding
pub mod Granted
pub mod Keeping
