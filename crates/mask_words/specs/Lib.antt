pub mod Options
pub mod Reading
pub mod Numbers
pub mod Settings
-- The theorem of `check` doesn't rest on what follows: proofs and the contracts of inner calls use it.
pub mod Answers
pub mod Command
pub mod Shown
pub mod Taken
