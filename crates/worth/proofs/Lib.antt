pub mod Sums
pub mod Orders
pub mod Amounts
pub mod Leasts
pub mod Totals
