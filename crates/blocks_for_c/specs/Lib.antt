pub use Rattle.blocks.specs.Tests
pub use Rattle.blocks.specs.OneByte
pub use Rattle.blocks.specs.Faults
pub mod Answers
