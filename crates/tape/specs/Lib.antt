pub mod Format
pub mod Fields
pub mod Reading
pub mod Writing
pub mod Numbers
