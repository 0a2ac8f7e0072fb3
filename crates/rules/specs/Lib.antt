pub mod Firm
pub mod Laws
pub mod Parts
pub mod Plans
pub mod Sheets
