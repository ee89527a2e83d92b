pub mod Signed
pub mod Scales
pub mod Heads
pub mod Readings
pub mod OfReadings
pub mod Keys
pub mod OfKeys
