pub mod Members
pub mod Checks
pub mod Parents
