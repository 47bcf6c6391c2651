pub mod Numbers
pub mod Runs
