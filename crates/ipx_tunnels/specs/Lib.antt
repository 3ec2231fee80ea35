pub mod Tunnels
pub mod TunnelFaults
