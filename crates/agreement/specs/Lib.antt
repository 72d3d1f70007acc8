pub mod Vehicle
pub mod Lines
pub mod Ends
pub mod Demand
