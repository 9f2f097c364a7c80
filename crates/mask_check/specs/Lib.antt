pub mod Demonstrations
pub mod Questions
pub mod Tallying
pub mod Report
pub mod Ends
pub mod Causes
-- The theorem of `check` doesn't rest on what follows: proofs and the contracts of inner calls use it.
pub mod Decisions
