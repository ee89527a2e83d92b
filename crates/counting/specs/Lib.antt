pub mod Bounds
pub mod Rule
pub mod Book
pub mod Runs
pub mod Laws
pub mod Examples
