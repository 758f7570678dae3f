pub mod Losses
pub mod Offers
pub mod Packed
pub mod Records
pub mod Rings
pub mod Slots
pub mod Spelled
