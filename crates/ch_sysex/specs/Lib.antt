pub mod SysexEvent
pub mod ChapterX
pub mod ChapterLaws
pub mod Limits
pub mod Fresh
pub mod FreshLaws
pub mod SysexTable
pub mod TableLaws
