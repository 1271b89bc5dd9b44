pub mod ChannelBounds
pub mod ChannelJournals
pub mod Chapters
pub mod Headed
pub mod LogsRead
pub mod Params
pub mod JournalBounds
