pub mod Cases
pub mod SoFar
pub mod Several
pub mod Laws
pub mod Window
pub mod Run
pub mod End
pub mod Passes
