pub mod Order
pub mod Entering
pub mod Listing
pub mod Laws
