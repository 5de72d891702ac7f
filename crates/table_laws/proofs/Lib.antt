-- Rows and chains
pub mod Rows
pub mod Chain
pub mod Steps
-- Index sets, maps, string tables
pub mod Items
pub mod Sets
pub mod Maps
pub mod Sections
pub mod TextTables
-- Taking back
pub mod UndoRow
pub mod UndoRows
pub mod UndoTexts
pub mod UndoRanges
pub mod JournalCount
