pub mod Heads
pub mod Bits
pub mod Samples
pub mod Contents
pub mod Listings
