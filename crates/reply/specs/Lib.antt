pub mod Shape
pub mod Reply
pub mod Answers
pub mod Steps
