pub mod InTurn
pub mod NamesLemmas
pub mod Rows
pub mod Words
pub mod Reading
