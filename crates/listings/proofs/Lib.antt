pub mod Keeping
pub mod Ordering
pub mod Handing
pub mod Members
pub mod Completeness
pub mod Entries
