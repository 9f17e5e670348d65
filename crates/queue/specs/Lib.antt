pub mod Contents
pub mod Order
pub mod Answers
pub mod Calls
