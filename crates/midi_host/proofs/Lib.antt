pub mod TextLemmas
pub mod LineReaderLemmas
pub mod WroteLemmas
pub mod Progress
pub mod ConversationLemmas
pub mod ReplayLemmas
pub mod StateTextLaws
pub mod SessionShownLaws
mod ServeParsing
mod Removing
mod Attending
mod ServingPasses
