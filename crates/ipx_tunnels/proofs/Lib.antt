pub mod Headers
pub mod Back
