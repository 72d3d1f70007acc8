pub mod Hire
pub mod Steps
