pub mod Variables
pub mod Operations
pub mod File
-- The theorem of `check` doesn't rest on what follows: proofs and the contracts of inner calls use it.
pub mod Seen
pub mod NameOrder
pub mod Made
pub mod Numerals
pub mod Gadgets
pub mod Inside
pub mod Values
pub mod Wires
pub mod Canonical
