pub mod Obeying
pub mod Keeping
pub mod Changing
pub mod Deciding
pub mod Checking
