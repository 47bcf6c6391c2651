pub mod Image
pub mod Filed
pub mod Laws
