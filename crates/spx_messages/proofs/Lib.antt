pub mod Keyed
pub mod Listeners
pub mod Pushed
pub mod Rests
pub mod Arriving
pub mod Once
pub mod OnePoll
mod Polling
mod Turning
mod Written
pub mod Pieces
pub mod Joins
pub mod Filled
pub mod Grouping
