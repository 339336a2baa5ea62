pub mod Granting
pub mod Guarding
pub mod Refusing
pub mod Pools
pub mod Waking
