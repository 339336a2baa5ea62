pub mod Effects
pub mod Verdicts
pub mod Levels
pub mod Outcomes
pub mod Decisions
