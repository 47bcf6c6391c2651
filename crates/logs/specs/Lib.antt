pub mod Choices
pub mod Follow
pub mod Lines
pub mod Following
pub mod Inner
pub mod Laws
