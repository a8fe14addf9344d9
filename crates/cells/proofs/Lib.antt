pub mod Filling
pub mod Weights
pub mod Distances
pub mod Pairs
