pub mod Cutting
pub mod Each
pub mod Firming
pub mod Measures
pub mod Problems
pub mod Propagating
pub mod Running
pub mod Writing
