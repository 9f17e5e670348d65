pub mod Reads
pub mod Queues
pub mod Searches
pub mod Traces
pub mod Starts
pub mod Answers
pub mod Weighing
pub mod Trials
