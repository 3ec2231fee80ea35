pub mod Capped
pub mod Counting
pub mod Progress
pub mod Sampled
pub mod Tended
pub mod Waited
