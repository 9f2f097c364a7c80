-- The theorem of `check` doesn't rest on what follows: proofs and the contracts of inner calls use it.
pub mod Rule
pub mod Seen
pub mod Answers
pub mod Closing
