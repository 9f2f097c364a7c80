pub mod Items
pub mod Notions
-- The theorem of `check` doesn't rest on what follows: proofs and the contracts of inner calls use it.
pub mod Questions
pub mod Inside
