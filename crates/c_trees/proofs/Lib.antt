pub mod TreeLaws
pub mod LinesLaws
