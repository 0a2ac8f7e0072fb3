pub mod Answers
pub mod Smalls
