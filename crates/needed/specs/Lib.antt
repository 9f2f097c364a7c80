pub mod ShareCounts
-- The theorem of `check` doesn't rest on what follows: proofs and the contracts of inner calls use it.
pub mod Sums
pub mod LeastSets
pub mod Eliminated
pub mod HeldFields
pub mod Others
pub mod TestedItems
pub mod HeldItems
pub mod ItemFields
