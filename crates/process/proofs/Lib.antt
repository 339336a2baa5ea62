pub mod Moves
pub mod Places
pub mod FirstInFirstOut
pub mod Telling
pub mod Delivering
pub mod RecordInMemory
