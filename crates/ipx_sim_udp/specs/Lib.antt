pub mod Mapped
pub mod Stops
pub mod RunnerTurns
pub mod UdpPorts
pub mod Binding
pub mod UdpCalls
pub mod UdpDoing
pub mod Ending
