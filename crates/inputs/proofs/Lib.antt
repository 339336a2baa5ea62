pub mod Bits
pub mod Sets
pub mod Members
pub mod Walk
pub mod Rising
