pub mod Symbols
pub mod Grammar
pub mod Nesting
pub mod Assignments
-- The theorem of `check` doesn't rest on what follows: proofs and the contracts of inner calls use it.
pub mod Steps
pub mod Machine
pub mod Seen
