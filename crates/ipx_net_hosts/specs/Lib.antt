pub mod Hosts
pub mod Refusing
pub mod HostStates
pub mod EndStates
pub mod HostBeginnings
