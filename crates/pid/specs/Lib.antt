pub mod J1979
pub mod Lengths
