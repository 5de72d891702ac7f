-- `is_free` meets its contract: what `get` found, by its two variants.
use mathlib.Core.Path.{sym, ◌∙◌, ap}
use Rattle.steps.specs.Steps.{free}
use Rattle.steps.proofs.is_free.Goals as goal

pub returns-in-None : goal.returns-in-None
returns-in-None c = ap free (sym c.in-None.is ∙ c.get.ensures)

pub returns-in-Some : goal.returns-in-Some
returns-in-Some c = c.is_no_source_location.ensures ∙ ap free (sym c.in-Some.is ∙ c.get.ensures)
