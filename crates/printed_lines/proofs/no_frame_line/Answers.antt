-- The test of the room; the bytes by the calls' stores.
use mathlib.Core.Path.{sym, ◌∙◌}
use Rattle.printed_lines.proofs.Whole.{no_frame-length, no-room, no_frame-bytes}
use Rattle.printed_lines.proofs.no_frame_line.Goals as goal

pub returns-then-not-inside : goal.returns-then-not-inside
returns-then-not-inside c =
    let a = c.args in
    no-room a.out.now _ a.at 26 (no_frame-length a.address) (sym c.inside.ensures ∙ c.if-not-inside.true)

pub returns : goal.returns
returns c = rw (no_frame-bytes c.args.address c.put_hex.ensures c.put_spaced.ensures) at c.put_line.ensures
