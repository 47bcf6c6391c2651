pub mod File
pub mod Refusal
pub mod Reading
pub mod Writing
pub mod Listing
pub mod Laws
