mod Asked
pub mod Handing
pub mod Steady
