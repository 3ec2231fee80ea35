pub mod MeteredRouter
pub mod LastDrops
pub mod PortCounts
