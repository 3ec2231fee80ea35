pub mod Pauses
pub mod ToldPorts
