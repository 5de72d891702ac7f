pub mod CallLaws
pub mod ScratchLaws
pub mod LineLaws
pub mod TreeLaws
