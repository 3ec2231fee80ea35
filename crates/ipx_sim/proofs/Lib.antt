pub mod Steps
pub mod Texts
pub mod Telling
pub mod Ends
pub mod Numerals
pub mod Positions
pub mod Deeds
