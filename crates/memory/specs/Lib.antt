pub mod Records
pub mod Slots
pub mod Lengths
