pub mod Sum
pub mod Total
