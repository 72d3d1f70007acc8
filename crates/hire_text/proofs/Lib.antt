mod LineLaws
mod PartLaws
mod StandLaws
pub mod HireLaws
mod Worked
