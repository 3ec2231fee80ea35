pub mod Frame
pub mod FrameFault
pub mod SentFrame
pub mod PortFrames
pub mod SwitchEnds
pub mod Notices
pub mod Heard
