pub mod Pairs
pub mod Operations
