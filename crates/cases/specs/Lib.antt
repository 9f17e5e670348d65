pub mod Claims
pub mod Check
pub mod Table
