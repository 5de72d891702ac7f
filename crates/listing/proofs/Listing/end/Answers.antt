-- By the test of what waits.
use mathlib.Core.Path.{sym, ◌∙◌}
use Rattle.listing.specs.Pieces.{end_of}
use Rattle.listing.proofs.Listing.end.Goals as goal

pub returns-then-is_waiting : goal.returns-then-is_waiting
unfolding end_of
returns-then-is_waiting c = rw (sym c.is_waiting.ensures ∙ c.if-is_waiting.true)

pub returns : goal.returns
unfolding end_of
returns c =
    rw (
      sym c.is_waiting.ensures ∙ c.if-is_waiting.false,
      c.waiting_for.ensures,
      c.end-last.ensures,
    )
