pub mod Result
pub mod Step
pub mod Lent
