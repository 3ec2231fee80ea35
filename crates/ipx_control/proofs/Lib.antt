pub mod Parts
pub mod ByteLists
pub mod EntryLists
pub mod Faults
pub mod RipPackets
pub mod SapPackets
