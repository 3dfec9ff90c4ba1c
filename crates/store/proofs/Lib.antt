pub mod Keeping
pub mod Missing
pub mod Copies
