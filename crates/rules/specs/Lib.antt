pub mod Rules
pub mod Facets
pub mod Laws
