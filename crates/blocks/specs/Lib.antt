pub use Rattle.bodies.specs.Numbers
pub mod Checks
pub mod Blocks
pub mod Faults
pub mod Tests
pub mod OneByte
