pub mod Digits
pub mod Joining
pub mod Numbers
