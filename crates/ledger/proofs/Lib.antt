pub mod Working
pub mod Opening
pub mod Besides
pub mod Feeding
pub mod Lawing
pub mod Reporting
