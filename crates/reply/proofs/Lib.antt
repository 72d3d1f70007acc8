pub mod TextLaws
pub mod SizeLaws
pub mod WriteLaws
pub mod AnswerLaws
pub mod ByteLaws
