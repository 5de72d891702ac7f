-- The ideal converter, a map from addresses to stacks of frames, has demand 3
pub mod Ideal
pub mod Maps
pub mod Spans
pub mod Walk
pub mod Loop
pub mod Trees
pub mod Stacks
pub mod Theorem
pub mod Extents
-- so has every machine that keeps some laws
pub mod Depths
pub mod Flat
pub mod Means
pub mod Simulate
-- which the plain converter does
pub mod Intern
pub mod Chains
pub mod Keeps
pub mod Derive
pub mod Demand
-- Every list, well nested or not: two machines side by side, and what holds of the plain tables
pub mod Couple
pub mod Always
pub mod Starts
pub mod Gaps
pub mod Compact
pub mod Grown
pub mod Encoded
pub mod Capped
-- The file
pub mod Written
pub mod FileRows
pub mod Sections
-- Computed
pub mod Worked
pub mod Instance
pub mod GapList
pub mod Corners
