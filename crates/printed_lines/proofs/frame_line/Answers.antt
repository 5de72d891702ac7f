-- The test of the room; the bytes by the calls' stores.
use mathlib.Core.Path.{sym, ◌∙◌}
use Rattle.printed_lines.proofs.Whole.{frame-length, no-room, frame-bytes}
use Rattle.printed_lines.proofs.frame_line.Goals as goal

pub returns-then-not-inside : goal.returns-then-not-inside
returns-then-not-inside c =
    let a = c.args in
    no-room a.out.now _ a.at 62 (frame-length a.address a.number a.location a.function a.line a.file) (sym c.inside.ensures ∙ c.if-not-inside.true)

pub returns : goal.returns
returns c =
    let a = c.args in
    rw (frame-bytes a.address a.number a.location a.function a.line a.file c.put_hex.ensures c.put_spaced.ensures c.put_spaced-2.ensures c.put_spaced-3.ensures c.put_spaced-4.ensures c.put_spaced-5.ensures) at c.put_line.ensures
