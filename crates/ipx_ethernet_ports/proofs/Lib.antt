mod Asked
pub mod Ends
pub mod Hubs
pub mod Staying
pub mod Arrivals
