pub mod TimeOfDay
pub mod Fields
pub mod Counting
