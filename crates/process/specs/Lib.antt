pub mod States
pub mod Messages
pub mod FirstInFirstOut
pub mod Marks
pub mod Process
