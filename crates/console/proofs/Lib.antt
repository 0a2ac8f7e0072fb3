mod Filled
pub mod Room
pub mod Told
