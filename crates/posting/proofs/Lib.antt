pub mod Letters
pub mod Waking
pub mod Serving
pub mod Keeping
pub mod Stepping
