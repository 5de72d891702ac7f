-- `write_padding` meets its contract: behind an odd number of starts four zeros, else none.
use mathlib.Core.Path.{◌∙◌}
use native.Mathlib.Omega.{arith}
use Rattle.serialize.proofs.Rows.{padding_odd, padding_even}
use Rattle.serialize.proofs.write_padding.Goals as goal

pub returns-then-count-eq1 : goal.returns-then-count-eq1
returns-then-count-eq1 c =
    let a = c.args in
    c.store_u32.ensures ∙ rw (padding_odd a.count c.if-count-eq1.true)

pub returns-else-count-eq1 : goal.returns-else-count-eq1
returns-else-count-eq1 c = let a = c.args in rw (padding_even a.count (omega arith))
