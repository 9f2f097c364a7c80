pub mod Bits
pub mod Circuit
pub mod Simulation
pub mod Polynomials
pub mod Classes
