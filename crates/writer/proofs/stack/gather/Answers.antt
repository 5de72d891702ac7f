use mathlib.Core.List.{[]}
use Prim.Native.Nat.{◌<◌, ◌/◌}
use native.Mathlib.Omega.{arith}
use Prim.Native.Nat.{◌<◌}
use Rattle.rows.specs.Columns.{columns_of, function_rows}
use Rattle.writer.proofs.ScratchLaws.{gathers_stop, gathers_end, gathers_pass, gathers_push, gathers_room, lines_fit}
use Rattle.writer.proofs.stack.gather.Goals as goal
use Rattle.writer.proofs.stack.gather.Goals.{then-q-depth-2, else-q-depth-2}

pub returns-then-q-depth : goal.returns-then-q-depth
returns-then-q-depth c =
    let a = c.args in
    gathers_stop (columns_of a.functions a.lines []) a.depth a.at a.i a.first a.s.now c.loop-r.s c.loop-r.r c.loop-r.line c.loop-r.n c.loop-r.invariant _ c.row-q.ensures (rw c.len-r-end.ensures at c.loop-r-test.true) c.if-q-depth.true

pub push_lines-requires : goal.push_lines-requires
push_lines-requires c =
    let a = c.args in
    let k = (columns_of a.functions a.lines []) in
    let r = gathers_room k a.depth a.at a.i a.first a.s.now c.loop-r.s c.loop-r.r c.loop-r.line c.loop-r.n c.loop-r.invariant c.row-q.result c.row-q.ensures (rw c.len-r-end.ensures at c.loop-r-test.true) c.if-q-depth-2.true in (
      omega (arith, r, c.loop-r.invariant.len, c.requires.room),
      lines_fit k c.loop-r.r c.loop-r.line c.row-q.result c.row-q.ensures c.loop-r.invariant.line-is (c.requires.within c.loop-r.r (rw c.len-r-end.ensures at c.loop-r-test.true)),
    )

pub loop-r-preserved : goal.loop-r-preserved
loop-r-preserved c =
    let a = c.args in
    let k = columns_of a.functions a.lines [] in
    let h : c.loop-r.r < function_rows k = rw c.len-r-end.ensures at c.loop-r-test.true in
    elim c.if-q-depth-2.branch [
      | then-q-depth-2 w ↦ rw (w.s-is, w.n-is)
          (gathers_push k a.depth a.at a.i a.first a.s.now c.loop-r.s c.loop-r.r c.loop-r.line c.loop-r.n c.loop-r.invariant c.row-q.result c.row-q.ensures h w.if-q-depth-2.true _
          (w.push_lines.ensures a.functions.columns64.now a.functions.columns32.now []) w.push_lines.auto.s)
      | else-q-depth-2 w ↦ rw (w.s-is, w.n-is)
          (gathers_pass k a.depth a.at a.i a.first a.s.now c.loop-r.s c.loop-r.r c.loop-r.line c.loop-r.n c.loop-r.invariant c.row-q.result c.row-q.ensures h c.if-q-depth.false w.if-q-depth-2.false)
    ]

pub returns : goal.returns
returns c =
    let a = c.args in
    gathers_end (columns_of a.functions a.lines []) a.depth a.at a.i a.first a.s.now c.loop-r.s c.loop-r.r c.loop-r.line c.loop-r.n c.loop-r.invariant (rw c.len-r-end.ensures at c.loop-r-test.false)
