pub mod ReadLaws
pub mod DigitLaws
