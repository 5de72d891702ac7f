-- `rows::line_boundaries` meets its contract, by its three answers.
use Rattle.std.proofs.Common.{rules}
use Rattle.rows.proofs.Laws.{boundaries_clamped, boundaries_saturated, boundaries-within}
use Rattle.rows.proofs.line_boundaries.Goals as goal
use Rattle.rows.proofs.line_boundaries.Goals.{then-has_size, else-has_size}

pub returns-then-max-address : goal.returns-then-max-address
returns-then-max-address c = boundaries_clamped _ _ _ c.if-max-address.true

pub returns-then-max-address-2 : goal.returns-then-max-address-2
returns-then-max-address-2 c = boundaries_saturated _ _ _ c.if-max-address.false (elim c.if-has_size.branch [ then-has_size w ↦ search rules | else-has_size w ↦ search rules ]) c.if-max-address-2.true

pub returns : goal.returns
returns c = boundaries-within _ _ _ c.if-max-address.false (elim c.if-has_size.branch [ then-has_size w ↦ search rules | else-has_size w ↦ search rules ]) c.if-max-address-2.false
