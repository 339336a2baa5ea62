pub mod Parts
pub mod Using
