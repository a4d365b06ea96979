pub mod Laws
pub mod Occasions
pub mod Recorded
