-- The theorem of `check` doesn't rest on what follows: proofs and the contracts of inner calls use it.
pub mod Core
pub mod Effects
pub mod Machine
pub mod Past
pub mod Laws
pub mod Machines
pub mod Replays
