pub mod Line
pub mod Turn
pub mod Pieces
