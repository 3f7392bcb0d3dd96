pub mod Room
pub mod Run
pub mod Ledger
pub mod Newer
pub mod Joins
