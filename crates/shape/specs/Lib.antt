pub mod Datasheet
pub mod Sent
