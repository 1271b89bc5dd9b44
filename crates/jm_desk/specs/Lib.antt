pub mod History
pub mod HistoryLaws
pub mod Laws
pub mod OwnTurns
pub mod Sharing
pub mod SharingLaws
