pub mod Exact
pub mod Marks
