pub mod Monoid
pub mod Totals
pub mod Kept
pub mod Runs
pub mod Files
