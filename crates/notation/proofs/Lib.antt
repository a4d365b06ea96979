pub mod Laws
pub mod Words
pub mod Reading
