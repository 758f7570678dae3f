pub mod Sums
pub mod Divisors
pub mod Places
pub mod Passing
