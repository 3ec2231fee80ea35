pub mod ForwardedPackets
pub mod GroupSources
