pub mod Colons
pub mod Steps
pub mod Measures
pub mod Joins
pub mod Laws
pub mod Filled
pub mod RowLemmas
