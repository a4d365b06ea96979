pub mod Groups
pub mod Ends
pub mod Laws
pub mod Written
pub mod Window
