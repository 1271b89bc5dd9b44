pub mod Came
pub mod Replies
pub mod Acts
