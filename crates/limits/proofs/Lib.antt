mod Entered
mod Yielded
mod Plain
