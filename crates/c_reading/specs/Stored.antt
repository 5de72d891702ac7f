-- Quotations in this crate's definitions are from docs/INTERFACE.md, where not from document 01.
-- Words in lent slices. "Words that have no room in a lent slice are not stored": `set` past the end changes nothing. "Words that a lent slice lacks
-- are read as 0": `get_or` past the end.
use Rattle.std.specs.Prelude.{ℕ, List}
use Rattle.std.proofs.lemmas.List.Edits.{sets}

-- a slice after words were stored in it, from its first word on
abbrev pub stored : List ℕ → List ℕ → List ℕ
stored ws t = sets t 0 ws
