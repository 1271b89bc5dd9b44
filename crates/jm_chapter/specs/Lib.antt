pub mod Logs
pub mod LogsLaws
