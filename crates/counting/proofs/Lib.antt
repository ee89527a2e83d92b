pub mod Records
pub mod Sorts
pub mod Sums
pub mod Tells
pub mod Lawfuls
mod Worked
