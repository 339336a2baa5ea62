pub mod Receivers
pub mod Sending
pub mod Receiving
