pub mod Pooling
pub mod Deciding
