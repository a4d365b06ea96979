pub mod Face
pub mod Recordings
