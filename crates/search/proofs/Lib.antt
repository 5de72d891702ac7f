-- What the functions cite
pub mod SearchLaws
-- On ascending starts
pub mod Greatest
