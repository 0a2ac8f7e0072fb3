-- The laws of counting: of nvalue, of choices, the bounds that follow, and what makes no season.
pub mod Bounds
pub mod Choices
pub mod Nvalue
pub mod Seasons
pub mod Stretches
pub mod Replaced
