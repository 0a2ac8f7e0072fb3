pub mod Files
pub mod Replies
