pub mod Entries
pub mod Laid
pub mod Rows
