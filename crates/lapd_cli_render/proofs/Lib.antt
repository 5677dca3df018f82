pub mod ElementList
pub mod NoFloats
