pub mod Seating
pub mod Putting
pub mod Asking
