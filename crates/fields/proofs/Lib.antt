mod Fills
pub mod Courses
pub mod Into
