use mathlib.Core.Path.{refl, sym, ◌∙◌}
use Rattle.printed_lines.specs.Printed.{refused_line}
use Rattle.printed_lines.proofs.Whole.{no-room}
use Rattle.printed_lines.proofs.refused_line.Goals as goal

pub returns-then-not-inside : goal.returns-then-not-inside
unfolding refused_line
returns-then-not-inside c = no-room c.args.out.now _ c.args.at 11 refl (sym c.inside.ensures ∙ c.if-not-inside.true)

pub returns : goal.returns
unfolding refused_line
returns c = c.put_line.ensures
