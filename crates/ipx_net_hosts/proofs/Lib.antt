pub mod Known
pub mod Placing
pub mod Marks
