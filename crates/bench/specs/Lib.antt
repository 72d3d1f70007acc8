pub mod Script
pub mod Exchange
pub mod Deliver
pub mod Run
pub mod Steps
