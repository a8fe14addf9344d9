pub mod Choosing
pub mod Alike
pub mod Leading
pub mod Histories
