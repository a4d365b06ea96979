pub mod First
pub mod Unchanged
pub mod After
