pub mod Handing
pub mod Room
pub mod Deciding
pub mod Keeping
