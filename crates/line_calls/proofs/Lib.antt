pub mod AsTree
