pub mod Ledgers
pub mod Tallies
pub mod Laws
pub mod Examples
