mod CompareLaws
mod EntryLaws
