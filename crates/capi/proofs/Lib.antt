pub mod Maps
pub mod TextCalls
pub mod Back
pub mod Next
