pub mod Answered
pub mod Violated
