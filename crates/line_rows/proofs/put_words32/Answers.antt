-- `put_words32` meets its contract.
use native.Mathlib.Omega.{arith}
use lib.ListN.{length-set}
use Rattle.line_rows.specs.Lines.{words32}
use Rattle.line_rows.proofs.Words.{stored32, row_out}
use Rattle.line_rows.proofs.put_words32.Goals as goal

pub returns-then-j-unpacked32 : goal.returns-then-j-unpacked32
returns-then-j-unpacked32 c =
    let a = c.args in
    stored32 a.unpacked32.now a.j a.row c.if-j-unpacked32.true c.flag-has_size.ensures c.flag-srcsrv_name.ensures c.flag-srcsrv_dir.ensures c.flag-revision.ensures

pub returns-else-j-unpacked32 : goal.returns-else-j-unpacked32
returns-else-j-unpacked32 c = let a = c.args in row_out 14 a.unpacked32.now a.j (words32 a.row) c.if-j-unpacked32.false

pub bounds-unpacked32-k-then-j-unpacked32 : goal.bounds-unpacked32-k-then-j-unpacked32
bounds-unpacked32-k-then-j-unpacked32 c = simp length-set (omega arith)

pub bounds-unpacked32-k-then-j-unpacked32-2 : goal.bounds-unpacked32-k-then-j-unpacked32-2
bounds-unpacked32-k-then-j-unpacked32-2 c = simp length-set (omega arith)

pub bounds-unpacked32-k-then-j-unpacked32-3 : goal.bounds-unpacked32-k-then-j-unpacked32-3
bounds-unpacked32-k-then-j-unpacked32-3 c = simp length-set (omega arith)

pub bounds-unpacked32-k-then-j-unpacked32-4 : goal.bounds-unpacked32-k-then-j-unpacked32-4
bounds-unpacked32-k-then-j-unpacked32-4 c = simp length-set (omega arith)

pub bounds-unpacked32-k-then-j-unpacked32-5 : goal.bounds-unpacked32-k-then-j-unpacked32-5
bounds-unpacked32-k-then-j-unpacked32-5 c = simp length-set (omega arith)

pub bounds-unpacked32-k-then-j-unpacked32-6 : goal.bounds-unpacked32-k-then-j-unpacked32-6
bounds-unpacked32-k-then-j-unpacked32-6 c = simp length-set (omega arith)

pub bounds-unpacked32-k-then-j-unpacked32-7 : goal.bounds-unpacked32-k-then-j-unpacked32-7
bounds-unpacked32-k-then-j-unpacked32-7 c = simp length-set (omega arith)

pub bounds-unpacked32-k-then-j-unpacked32-8 : goal.bounds-unpacked32-k-then-j-unpacked32-8
bounds-unpacked32-k-then-j-unpacked32-8 c = simp length-set (omega arith)

pub bounds-unpacked32-k-then-j-unpacked32-9 : goal.bounds-unpacked32-k-then-j-unpacked32-9
bounds-unpacked32-k-then-j-unpacked32-9 c = simp length-set (omega arith)

pub bounds-unpacked32-k-then-j-unpacked32-10 : goal.bounds-unpacked32-k-then-j-unpacked32-10
bounds-unpacked32-k-then-j-unpacked32-10 c = simp length-set (omega arith)

pub bounds-unpacked32-k-then-j-unpacked32-11 : goal.bounds-unpacked32-k-then-j-unpacked32-11
bounds-unpacked32-k-then-j-unpacked32-11 c = simp length-set (omega arith)

pub bounds-unpacked32-k-then-j-unpacked32-12 : goal.bounds-unpacked32-k-then-j-unpacked32-12
bounds-unpacked32-k-then-j-unpacked32-12 c = simp length-set (omega arith)

pub bounds-unpacked32-k-then-j-unpacked32-13 : goal.bounds-unpacked32-k-then-j-unpacked32-13
bounds-unpacked32-k-then-j-unpacked32-13 c = simp length-set (omega arith)

pub shape_of-unpacked32 : goal.shape_of-unpacked32
shape_of-unpacked32 c = simp length-set
