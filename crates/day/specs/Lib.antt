pub mod Events
pub mod Texts
pub mod Bills
pub mod Sums
pub mod Days
pub mod Endings
