pub mod Choices
pub mod Laws
pub mod Nvalue
pub mod Seasons
pub mod Stretches
