pub mod Flaw
pub mod Rows
pub mod Patches
