pub mod Stream
pub mod Bounds
pub mod Choice
pub mod Search
pub mod Laws
