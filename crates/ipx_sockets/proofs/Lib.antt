pub mod AskedSockets
pub mod Watching
pub mod KeptSums
pub mod OneDue
pub mod Waits
