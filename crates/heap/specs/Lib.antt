pub mod Heaps
pub mod Lazy
