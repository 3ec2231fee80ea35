pub mod Filling
pub mod Held
pub mod Long
pub mod PeersStay
pub mod Telling
