pub mod Log
pub mod Script
