pub mod Checks
pub mod Each
pub mod Over
pub mod Pairs
pub mod Sound
pub mod Texts
pub mod Verdicts
pub mod Windows
