pub mod Sift
pub mod Lists
pub mod Found
pub mod Moves
pub mod Places
