pub mod Tables
pub mod Views
pub mod Changes
pub mod Sales
pub mod Knowns
pub mod Bids
pub mod Sheets
pub mod Bytes
