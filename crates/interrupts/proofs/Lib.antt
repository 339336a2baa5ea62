pub mod Fitting
pub mod Deciding
pub mod Keeping
