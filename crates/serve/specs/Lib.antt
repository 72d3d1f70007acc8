pub mod Vehicle
pub mod Serve
