-- `refusals::readable` meets its contract: the two tests one after the other.
use mathlib.Core.Path.{sym, ap, ◌∙◌}
use Rattle.slices.proofs.Cases.{and-stop, and_then}
use Rattle.text.specs.Utf8.{utf8}
use Rattle.refusals.specs.Refusals.{readable?}
use Rattle.refusals.proofs.readable.Goals as goal

pub returns-then-inside : goal.returns-then-inside
unfolding readable?
returns-then-inside c = and_then _ _ _ (sym c.inside.ensures ∙ c.if-inside.true) (c.is_utf8.ensures ∙ ap utf8 c.part.ensures)

pub returns-else-inside : goal.returns-else-inside
unfolding readable?
returns-else-inside c = c.if-inside.false ∙ and-stop _ _ (sym c.inside.ensures ∙ c.if-inside.false)
