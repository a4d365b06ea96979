pub mod Cases
pub mod Each
pub mod Pairs
pub mod WithBit
