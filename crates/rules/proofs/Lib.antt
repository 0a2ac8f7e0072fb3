-- The laws of plans and of firm sheets.
pub mod Firm
pub mod Inside
pub mod Lows
pub mod Order
pub mod Parts
pub mod Points
pub mod Replaced
