pub mod Text
pub mod Writing
pub mod Tapes
pub mod Lines
pub mod Scanning
pub mod Making
