pub mod Values
pub mod SameBits
pub mod Sums
pub mod Distributions
pub mod Projections
pub mod Simulations
pub mod Polynomials
pub mod SumsOver
pub mod WirePolynomials
pub mod PolynomialValues
pub mod AllAssignments
mod Examples
