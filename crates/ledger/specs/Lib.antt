pub mod Refusals
pub mod Table
pub mod Ledger
pub mod Judging
pub mod Feeding
pub mod Cleaning
pub mod Laws
