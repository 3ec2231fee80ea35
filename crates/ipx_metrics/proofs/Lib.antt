pub mod Counted
pub mod Sums
