pub mod Checks
pub mod Each
pub mod Narrowing
pub mod Pairs
pub mod Verdicts
