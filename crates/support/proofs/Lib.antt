pub mod Registers
pub mod Written
