pub mod Found
pub mod Laws
pub mod Changes
pub mod Kept
