pub mod Values
pub mod Words
pub mod Names
pub mod Entries
pub mod Record
pub mod LimitsLaws
pub mod Samples
