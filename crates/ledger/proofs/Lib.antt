pub mod Parts
pub mod Phrases
pub mod Judging
pub mod Ends
pub mod Finished
pub mod Refused
pub mod Worked
pub mod Splits
