-- What the search for the earliest plan rests on.
pub mod Joined
pub mod Left
pub mod Swaps
pub mod Trying
pub mod Unmoved
pub mod Widths
