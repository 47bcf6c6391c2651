pub mod Worked
pub mod Refusals
pub mod ManyCalls
