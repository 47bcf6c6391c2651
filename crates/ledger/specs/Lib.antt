pub mod Entry
pub mod Phrase
pub mod Ledger
pub mod Cases
pub mod Laws
