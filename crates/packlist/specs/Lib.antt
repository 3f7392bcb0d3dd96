pub mod Files
pub mod Names
pub mod Outcomes
pub mod Report
pub mod Script
