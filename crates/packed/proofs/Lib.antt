pub mod Digits
pub mod Lines
pub mod Pieces
pub mod Laws
pub mod Follows
pub mod Examples
pub mod Buffers
