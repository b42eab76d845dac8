pub mod Ledger
pub mod Answers
pub mod Records
pub mod Pass
