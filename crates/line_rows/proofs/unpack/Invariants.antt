-- `unpack` meets its contract: j rows are unpacked, and the rows still to come make the columns.
use mathlib.Core.Path.{◌≡◌}
use lib.ListN.{drop}
use Rattle.line_rows.specs.Lines.{words64, words32, put_lines}
use Rattle.line_rows.proofs.unpack.Given as goal

abbrev pub invariant-loop-j : goal.invariant-loop-j
invariant-loop-j l =
    (put_lines 3 words64 (drop l.j l.lines) l.j l.unpacked64 ≡ put_lines 3 words64 l.lines 0 l.initial.unpacked64)
    × (put_lines 14 words32 (drop l.j l.lines) l.j l.unpacked32 ≡ put_lines 14 words32 l.lines 0 l.initial.unpacked32)
