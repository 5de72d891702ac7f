-- The invariant: reading on from here is reading on from the start; past the end of the piece nothing is read.
use Rattle.std.proofs.Common.{◌≡◌, ◌<◌, length, drop}
use Rattle.input_lines.specs.Input.{read_on}
use Rattle.input_lines.proofs.Input.read.Given as goal

abbrev pub invariant-loop-i : goal.invariant-loop-i
invariant-loop-i l = (read_on l.input l.i (drop l.i l.bytes) ≡ read_on l.initial.input l.from (drop l.from l.bytes)) × (length l.bytes < l.from → l.i ≡ l.from)
