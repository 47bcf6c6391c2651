pub mod Terms
pub mod Laws
