pub mod Operation
pub mod Clause
pub mod Refusal
