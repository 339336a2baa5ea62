pub mod InputSet
