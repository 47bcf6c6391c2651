pub mod Tally
pub mod Counts
pub mod Inner
pub mod Laws
