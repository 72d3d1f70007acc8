pub mod ScanLaws
pub mod TurnLaws
pub mod LineLaws
pub mod DecodeLaws
pub mod BackLaws
pub mod WalkLaws
pub mod NullLaws
