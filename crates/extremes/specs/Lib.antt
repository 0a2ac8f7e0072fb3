pub mod Flags
pub mod Mirror
pub mod Orders
pub mod Shown
pub mod Stabbing
pub mod Turns
