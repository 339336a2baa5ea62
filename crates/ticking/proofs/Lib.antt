pub mod Quieting
pub mod Lulls
pub mod Moments
pub mod Waking
pub mod Keeping
