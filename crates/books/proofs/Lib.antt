pub mod Parting
pub mod Wholes
pub mod Lending
pub mod Working
pub mod Opening
pub mod Reading
