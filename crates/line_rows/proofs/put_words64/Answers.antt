-- `put_words64` meets its contract.
use native.Mathlib.Omega.{arith}
use lib.ListN.{length-set}
use Rattle.line_rows.specs.Lines.{words64}
use Rattle.line_rows.proofs.Words.{stored64, row_out}
use Rattle.line_rows.proofs.put_words64.Goals as goal

pub returns-then-j-unpacked64 : goal.returns-then-j-unpacked64
returns-then-j-unpacked64 c = let a = c.args in stored64 a.unpacked64.now a.j a.row c.if-j-unpacked64.true

pub returns-else-j-unpacked64 : goal.returns-else-j-unpacked64
returns-else-j-unpacked64 c = let a = c.args in row_out 3 a.unpacked64.now a.j (words64 a.row) c.if-j-unpacked64.false

pub bounds-unpacked64-k-then-j-unpacked64 : goal.bounds-unpacked64-k-then-j-unpacked64
bounds-unpacked64-k-then-j-unpacked64 c = simp length-set (omega arith)

pub bounds-unpacked64-k-then-j-unpacked64-2 : goal.bounds-unpacked64-k-then-j-unpacked64-2
bounds-unpacked64-k-then-j-unpacked64-2 c = simp length-set (omega arith)
