pub mod Putting
pub mod Packing
pub mod Patch
pub mod Writing
pub mod Decimals
pub mod Lines
