pub mod Tests
pub mod Sheets
pub mod Judgements
pub mod Sound
