pub mod Folding
pub mod Gathering
pub mod Lowness
pub mod Rows
pub mod Shortness
pub mod Written
