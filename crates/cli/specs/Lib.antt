pub mod Escaped
pub mod Pulled
pub mod Refused
pub mod Size
pub mod TextFile
