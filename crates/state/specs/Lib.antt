pub mod Parts
pub mod Named
pub mod Sound
pub mod Words
