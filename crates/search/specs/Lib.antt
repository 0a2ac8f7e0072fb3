pub mod Search
pub mod Solves
