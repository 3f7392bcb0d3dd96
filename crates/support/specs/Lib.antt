pub mod Target
pub mod Calls
pub mod Page
pub mod Samples
pub mod Written
