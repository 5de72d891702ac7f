-- `LineRows::is_cut` meets its contract.
use mathlib.Core.Path.{◌∙◌, ap}
use Rattle.rows.specs.declared.LineRow.{LineRow}
use Rattle.rows.specs.declared.Boundaries.{Boundaries}
use Rattle.rows.specs.Columns.{boundaries_of}
use Rattle.rows.specs.Clamped.{cut_at}
use Rattle.rows.proofs.LineRows.is_cut.Goals as goal

pub returns : goal.returns
unfolding cut_at
returns c = ap (λ (b : Boundaries). b.cut) c.line_boundaries.ensures ∙ ap (λ (l : LineRow). (boundaries_of l.address l.has_size l.size).cut) c.row-line.ensures
