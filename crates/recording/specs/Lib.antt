pub mod Recording
pub mod RecordedStep
pub mod Operations
pub mod Run
