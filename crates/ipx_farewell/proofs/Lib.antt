pub mod Cuts
pub mod Said
pub mod Members
pub mod Advertised
pub mod Forgotten
