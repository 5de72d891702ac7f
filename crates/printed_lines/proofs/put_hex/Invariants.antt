-- The invariant: the digits that are left, stored from `at` on, give what all of them stored at entry give.
use mathlib.Core.Path.{◌≡◌}
use lib.Seq.{sets}
use Rattle.printed_lines.specs.Printed.{hex_field}
use Rattle.printed_lines.proofs.put_hex.Given as goal

abbrev pub invariant-loop-i : goal.invariant-loop-i
invariant-loop-i l = sets l.out l.at (hex_field l.i l.rest) ≡ sets l.initial.out l.at (hex_field l.width l.value)
