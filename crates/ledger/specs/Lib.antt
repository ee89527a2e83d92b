pub mod OfLedger
pub mod Openings
pub mod Reports
