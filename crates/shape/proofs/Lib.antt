pub mod Lines
pub mod Server
pub mod Wrong
