pub mod Values
pub mod Learn
pub mod Read
pub mod Steps
