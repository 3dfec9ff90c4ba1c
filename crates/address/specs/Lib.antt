pub mod Addresses
pub mod Deliveries
pub mod Sounds
