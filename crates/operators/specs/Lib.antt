pub mod Operators
pub mod Pipes
pub mod PipeLaws
