pub mod SourceChecks
pub mod SourceChecked
pub mod ForwardedIsNoControl
pub mod GroupIsNoControl
