-- By the test of the room.
use mathlib.Core.Path.{sym, ◌∙◌}
use Rattle.printed_lines.specs.Printed.{put_line}
use Rattle.printed_lines.proofs.put_line.Goals as goal

pub returns-then-inside : goal.returns-then-inside
unfolding put_line
returns-then-inside c = rw (sym c.inside.ensures ∙ c.if-inside.true, c.copy.ensures)

pub returns : goal.returns
unfolding put_line
returns c = rw (sym c.inside.ensures ∙ c.if-inside.false)
