pub mod Words
pub mod Configuration
pub mod Answers
pub mod Wakes
pub mod Table
pub mod Sound
