-- Words of lent slices: what is 0 throughout, and what a word says as a flag.
use Rattle.std.specs.Prelude.{ℕ, Bool, cond, not, List, eqb, length, replicate}

-- as many zeros
abbrev pub zeros : List ℕ → List ℕ
zeros s = replicate (length s) 0

-- "Flags: 0 is no, anything else yes; written as 0 or 1" (docs/INTERFACE.md)
abbrev pub yes : ℕ → Bool
yes v = not (eqb v 0)

abbrev pub flag_of : Bool → ℕ
flag_of b = cond b 1 0
