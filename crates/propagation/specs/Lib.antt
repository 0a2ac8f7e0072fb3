pub mod Changes
pub mod Flags
pub mod Problems
pub mod Queues
pub mod Runs
pub mod Widths
