pub mod RecordsLemmas
pub mod SlotWalks
pub mod JournalWalks
pub mod JournalStates
pub mod SlotStates
