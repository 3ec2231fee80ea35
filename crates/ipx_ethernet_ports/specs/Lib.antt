pub mod EndTraffic
pub mod OnEthernet
pub mod EthernetCalls
pub mod TunnelDrops
pub mod EthernetAddresses
pub mod MemoryTraffic
