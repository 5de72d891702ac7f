-- `lay_out` meets its contract: no sum of 32-bit counts by small sizes wraps.
use Rattle.serialize.specs.File.{layout_of}
use borrow.Author.Rules.{rules}
use Rattle.serialize.proofs.lay_out.Goals as goal

pub returns : goal.returns
unfolding layout_of
returns c = search rules
