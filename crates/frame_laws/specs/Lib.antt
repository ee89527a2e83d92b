pub mod Readings
pub mod Keys
pub mod Examples
