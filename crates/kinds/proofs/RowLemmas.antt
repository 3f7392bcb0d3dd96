-- Lemmas of rows.
pub mod Blanks
pub mod CellsAtEnd
pub mod Fulls
pub mod Walked
pub mod Spelled
pub mod Placed
pub mod Blocked
pub mod Accepted
pub mod AttributesGiven
pub mod Latest
pub mod TextByMappings
