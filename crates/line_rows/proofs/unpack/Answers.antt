use native.Mathlib.Omega.{arith}
use Rattle.line_rows.specs.Lines.{words64, words32}
use Rattle.line_rows.proofs.Turns.{put-more, unpacked_all, unpacked_none}
use Rattle.line_rows.proofs.unpack.Goals as goal

pub returns-then-refused-ne0 : goal.returns-then-refused-ne0
returns-then-refused-ne0 c =
    let a = c.args in
    (unpacked_none a.refused 3 words64 a.lines.now a.unpacked64.now c.if-refused-ne0.true, unpacked_none a.refused 14 words32 a.lines.now a.unpacked32.now c.if-refused-ne0.true)

pub loop-j-preserved : goal.loop-j-preserved
loop-j-preserved c =
    let a = c.args in
    let l = c.loop-j in (
      put-more 3 words64 a.lines.now l.j l.unpacked64 (omega (arith, c.loop-j-test.true)) l.invariant.0 c.put_line.ensures.0,
      put-more 14 words32 a.lines.now l.j l.unpacked32 (omega (arith, c.loop-j-test.true)) l.invariant.1 c.put_line.ensures.1,
    )

pub returns : goal.returns
returns c =
    let a = c.args in
    let l = c.loop-j in (
      unpacked_all a.refused 3 words64 a.lines.now l.j a.unpacked64.now c.if-refused-ne0.false (omega (arith, c.loop-j-test.false)) l.invariant.0,
      unpacked_all a.refused 14 words32 a.lines.now l.j a.unpacked32.now c.if-refused-ne0.false (omega (arith, c.loop-j-test.false)) l.invariant.1,
    )
