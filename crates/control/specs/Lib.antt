pub mod Controls
pub mod Incomings
pub mod Nodes
pub mod Floors
