pub mod Determined
pub mod Planning
pub mod Replies
