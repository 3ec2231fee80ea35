pub mod StaticAdvertisements
pub mod WithStatics
pub mod StaticOffers
pub mod StaticRuns
