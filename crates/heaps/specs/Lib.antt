pub mod Heap
pub mod Found
