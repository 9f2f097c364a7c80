-- The theorem of `check` doesn't rest on what follows: proofs and the contracts of inner calls use it.
pub mod Works
