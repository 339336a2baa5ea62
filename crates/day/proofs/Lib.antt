pub mod Forward
pub mod Until
pub mod Ranges
pub mod RoundTrip
pub mod Halving
pub mod UnitByUnit
