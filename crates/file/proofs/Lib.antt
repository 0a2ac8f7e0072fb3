pub mod Adding
pub mod Again
pub mod Bytes
pub mod Reading
pub mod Sheets
pub mod Writing
