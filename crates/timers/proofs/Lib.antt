pub mod Cancels
pub mod Fitting
pub mod Keeping
