pub mod Charges
pub mod Turns
pub mod Twins
pub mod Spots
pub mod Weights
pub mod Lawful
pub mod Joining
