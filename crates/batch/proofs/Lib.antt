pub mod Run
pub mod Steps
pub mod Joined
pub mod Laws
pub mod Most
