pub mod FirstSupport
pub mod Matching
pub mod Reach
pub mod Supports
pub mod Tight
