pub mod Counted
pub mod Planned
