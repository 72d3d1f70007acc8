pub mod Lines
pub mod Reader
pub mod Decode
pub mod Steps
