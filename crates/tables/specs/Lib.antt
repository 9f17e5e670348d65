pub mod Tables
pub mod View
pub mod Readings
pub mod Known
pub mod Changes
