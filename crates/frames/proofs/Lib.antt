pub mod Signed
pub mod Keying
pub mod Maps
pub mod Heading
