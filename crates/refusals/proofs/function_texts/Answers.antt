-- `refusals::function_texts` meets its contract: the two tests one after the other.
use mathlib.Core.Path.{sym, ◌∙◌}
use Rattle.slices.proofs.Cases.{and-stop, and_then}
use Rattle.refusals.specs.Refusals.{function_texts?}
use Rattle.refusals.proofs.function_texts.Goals as goal

pub returns-then-readable : goal.returns-then-readable
unfolding function_texts?
returns-then-readable c = and_then _ _ _ (sym c.readable.ensures ∙ c.if-readable.true) c.inside.ensures

pub returns-else-readable : goal.returns-else-readable
unfolding function_texts?
returns-else-readable c = c.if-readable.false ∙ and-stop _ _ (sym c.readable.ensures ∙ c.if-readable.false)
