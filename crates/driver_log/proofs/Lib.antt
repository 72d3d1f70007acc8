pub mod LogLaws
pub mod ScriptLaws
