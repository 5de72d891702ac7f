use mathlib.Core.Path.{ap}
use native.Mathlib.Omega.{arith}
use Rattle.rows.specs.declared.FunctionRow.{FunctionRow}
use Rattle.refusals.proofs.Laws.{total-none, total-more, total-end}
use Rattle.refusals.proofs.line_count.Goals as goal

pub loop-i-init : goal.loop-i-init
loop-i-init c = (total-none _, omega arith)

pub loop-i-preserved : goal.loop-i-preserved
loop-i-preserved c = (total-more _ _ c.loop-i.invariant.0 (ap (λ (q : FunctionRow). q.lines) c.row.ensures), omega arith)

pub returns : goal.returns
returns c = total-end _ _ _ _ (omega arith) (omega arith) c.loop-i.invariant.0
