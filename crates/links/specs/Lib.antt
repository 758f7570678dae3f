pub mod EventRecords
pub mod Links
pub mod NoneLost
pub mod Rings
pub mod Slots
pub mod Spelling
