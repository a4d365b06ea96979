pub mod Compare
pub mod Walk
pub mod Parted
