pub mod Doubling
pub mod Sixtyfourths
pub mod Comparing
