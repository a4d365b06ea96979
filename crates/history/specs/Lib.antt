pub mod History
pub mod Events
pub mod Plain
