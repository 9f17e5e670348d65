pub mod Group
pub mod Says
pub mod Totals
pub mod Least
pub mod Models
pub mod ModelsLemmas
pub mod Pairs
