pub mod Event
pub mod Hidden
