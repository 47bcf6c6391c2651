pub mod Refusal
pub mod Trace
pub mod Laws
