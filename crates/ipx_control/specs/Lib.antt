pub mod Entries
pub mod ControlFaults
pub mod Lent
pub mod Rip
pub mod Sap
