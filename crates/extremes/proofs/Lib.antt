pub mod Alike
pub mod Greatest
pub mod Mirrored
pub mod Orders
pub mod Packed
pub mod Packing
pub mod Stabbed
