pub mod Putting
pub mod Parts
pub mod Packing
pub mod Decimals
pub mod Accepting
pub mod ReadingBack
pub mod WritingBack
