pub mod Refusals
pub mod Replies
