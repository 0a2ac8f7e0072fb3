pub mod Faults
pub mod Format
pub mod Laws
pub mod Numbers
pub mod Reads
pub mod Rows
pub mod Writes
