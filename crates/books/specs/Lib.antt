pub mod Parts
pub mod OfBooks
pub mod Openings
