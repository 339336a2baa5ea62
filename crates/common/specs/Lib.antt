pub mod Choice
pub mod Every
pub mod Fold
pub mod Keep
pub mod Packing
pub mod Stands
pub mod Filled
