pub mod PlaceTraffic
pub mod OnServers
pub mod ServerCalls
pub mod ServerAddresses
pub mod PlacesMemory
