pub mod Bytes
pub mod Lines
pub mod Segments
pub mod Tokens
pub mod Names
pub mod Errors
pub mod Limits
-- The theorem of `check` doesn't rest on what follows: proofs and the contracts of inner calls use it.
pub mod Places
