pub mod Counted
pub mod Lists
pub mod Shown
pub mod Items
pub mod Slots
pub mod Values
pub mod Slotted
pub mod LastLines
