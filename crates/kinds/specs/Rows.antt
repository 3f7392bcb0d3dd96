-- The mappings of a process and their attributes, as rows and entries.
pub mod Cells
pub mod Paths
pub mod Rows
pub mod Flags
pub mod Entries
pub mod Lines
pub mod Tables
pub mod Blocks
pub mod Placed
pub mod Accepted
pub mod Latest
