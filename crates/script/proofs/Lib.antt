pub mod Pieces
pub mod LineLaws
pub mod Horner
pub mod WordLaws
pub mod OrderLaws
