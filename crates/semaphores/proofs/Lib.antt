pub mod Numbers
pub mod Waiting
pub mod ReleasingAll
pub mod Effects
pub mod Orderly
pub mod Waking
pub mod Turns
