pub mod StillPresent
pub mod Advertisers
pub mod TableText
pub mod TableRead
pub mod FirstAdvertisers
pub mod TableParts
pub mod ClientsText
