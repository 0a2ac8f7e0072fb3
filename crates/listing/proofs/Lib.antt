pub mod Lines
pub mod Over
