pub mod Refusals
pub mod Items
pub mod Uses
pub mod Whiches
-- The theorem of `check` doesn't rest on what follows: proofs and the contracts of inner calls use it.
pub mod Tables
pub mod CodeItems
pub mod Inside
pub mod Terms
pub mod ShareRows
pub mod WirePolynomials
pub mod UseCounts
