-- `or_empty` meets its contract.
use mathlib.Core.Path.{sym, ap}
use mathlib.Core.Bool.{Bool, cond}
use Rattle.steps.specs.Steps.{no_part}
use Rattle.steps.proofs.or_empty.Goals as goal

pub returns : goal.returns
returns c = sym (ap (λ (b : Bool). cond b c.args.p.part no_part) c.if-p.false)
