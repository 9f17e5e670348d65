pub mod Rounds
pub mod Explained
pub mod Checks
pub mod Numbers
pub mod Alike
pub mod Kept
pub mod Replay
pub mod Laws
