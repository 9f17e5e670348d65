pub mod Puts
pub mod Listings
pub mod Spelling
pub mod Sayings
pub mod RowWords
pub mod Makings
pub mod Wholes
