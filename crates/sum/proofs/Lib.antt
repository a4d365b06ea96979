pub mod Laws
pub mod Left
