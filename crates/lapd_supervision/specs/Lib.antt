pub mod StateVariables
pub mod Tags
