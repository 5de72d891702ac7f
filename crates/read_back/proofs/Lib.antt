-- The bytes of a file, and what the reader finds in them
pub mod RowsOfWords
pub mod FileRead
pub mod Once
pub mod Walks
-- There is one answer; every written file has it
pub mod Same
pub mod Written
-- What holds of every file: each walk ends, by the rule alone; an answer has one form
pub mod WalkLaws
pub mod NeverCut
pub mod Answers
-- Computed
pub mod WorkedBytes
pub mod Worked
