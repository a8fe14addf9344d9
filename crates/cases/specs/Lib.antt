pub mod Strengths
pub mod Digits
pub mod Samples
pub mod Cases
pub mod Table
