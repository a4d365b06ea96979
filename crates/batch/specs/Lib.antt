pub mod Run
pub mod Batch
