pub mod Trying
pub mod Deciding
pub mod Firm
pub mod Calls
pub mod Claims
