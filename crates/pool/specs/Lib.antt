pub mod Control
pub mod Parts
