pub mod LinesLaws
pub mod QueryLaws
pub mod StepLaws
pub mod ScriptLaws
pub mod CheckLaws
pub mod Worked
pub mod PiecesLaws
pub mod ExchangeLaws
pub mod NullLaws
pub mod DeliverLaws
mod RoundLaws
mod OnwardLaws
mod AskLaws
mod LoopLaws
mod InitLaws
mod RunLaws
