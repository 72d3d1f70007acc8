pub mod ReplyBack
pub mod Given
pub mod Agree
pub mod Heard
pub mod Arrive
pub mod Finished
pub mod Started
pub mod Replied
pub mod Asked
pub mod Parts
pub mod Ran
pub mod Numbers
pub mod Agreement
pub mod Witness
mod Needed
mod Worked
