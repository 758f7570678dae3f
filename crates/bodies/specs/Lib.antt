pub mod Numbers
pub mod Bodies
pub mod Codes
pub mod Events
pub mod Calls
pub mod Charges
pub mod Weights
