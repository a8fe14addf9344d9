pub mod Readings
pub mod Bits
pub mod Pixels
pub mod Costs
pub mod Eithers
pub mod Ranges
