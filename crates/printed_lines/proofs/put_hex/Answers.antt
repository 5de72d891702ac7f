use mathlib.Core.Path.{sym, ◌∙◌}
use native.Mathlib.Omega.{arith}
use Rattle.printed_lines.proofs.Runs.{hex_turn, hex_done}
use Rattle.printed_lines.proofs.put_hex.Goals as goal

pub loop-i-preserved : goal.loop-i-preserved
loop-i-preserved c = rw c.hex_digit.ensures (hex_turn c.loop-i.out c.args.at c.loop-i.i c.loop-i.rest (omega arith)) ∙ c.loop-i.invariant

pub returns : goal.returns
returns c = sym (hex_done c.loop-i.out c.args.at c.loop-i.i c.loop-i.rest (omega arith)) ∙ c.loop-i.invariant
