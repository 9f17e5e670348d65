pub mod Orders
pub mod Memory
pub mod Puts
pub mod Takes
pub mod Uses
