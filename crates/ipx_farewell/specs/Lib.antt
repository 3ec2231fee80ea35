pub mod Farewell
pub mod FarewellHeard
