pub mod Arguments
pub mod Runs
pub mod Streams
