pub mod Digits
pub mod Read
