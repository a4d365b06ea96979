pub mod BankRead
pub mod Demand1
pub mod Demand2
pub mod Freeze
pub mod Unique
