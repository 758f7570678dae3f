pub mod Held
pub mod Data
pub mod Bodies
pub mod Parts
pub mod Contents
pub mod Runs
pub mod Fresh
