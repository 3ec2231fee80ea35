pub mod PortBuckets
pub mod TokenBuckets
pub mod DirectedBroadcasts
pub mod PortLimits
pub mod RateLimiter
pub mod QueryRate
