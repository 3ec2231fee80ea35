pub mod Taken
pub mod Hearings
pub mod PortRates
pub mod PortTokens
pub mod NarrowHearings
pub mod EachQuery
pub mod Either
