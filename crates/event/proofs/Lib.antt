pub mod Laws
pub mod HiddenLaws
