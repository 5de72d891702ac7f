-- A capacity is the smaller of what was lent and of the most that is taken.
use Rattle.std.proofs.Common.{◌≡◌, ℕ, ◌/◌, min, arith}
use Rattle.tables.specs.Table.{capacity_of}
use Rattle.strings.specs.Strings.{text_capacity_of}

pub capacity_is : (words : ℕ) → min (words / 8) 16777216 ≡ capacity_of words
unfolding capacity_of
capacity_is words = grind arith

pub text_capacity_is : (bytes : ℕ) → min bytes 268435456 ≡ text_capacity_of bytes
unfolding text_capacity_of
text_capacity_is bytes = grind arith
