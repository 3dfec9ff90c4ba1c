pub mod Fields
pub mod Flags
pub mod Plain
pub mod Ranges
pub mod Encoding
pub mod Decoding
pub mod Laws
