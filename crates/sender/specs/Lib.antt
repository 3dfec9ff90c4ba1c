pub mod WantedNumbers
pub mod Senders
