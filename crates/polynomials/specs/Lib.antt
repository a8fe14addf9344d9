pub mod Sums
pub mod Monomials
pub mod Binomials
pub mod Messages
pub mod Words
pub mod Coefficients
pub mod Laws
