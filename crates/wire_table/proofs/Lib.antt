pub mod Monomials
pub mod FitPolynomials
pub mod TermSums
pub mod Zips
pub mod ShareRows
pub mod Faults
pub mod WirePolynomials
pub mod ShareProducts
pub mod MadeTables
pub mod Pigeonhole
pub mod Ranges
pub mod OutputPlaces
pub mod ItemReads
pub mod ItemPushes
pub mod WireItems
mod Examples
