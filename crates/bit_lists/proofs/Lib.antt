pub mod BitLists
pub mod NumberBits
pub mod SetSums
