pub mod Refusals
pub mod Texts
pub mod Left
pub mod Props
