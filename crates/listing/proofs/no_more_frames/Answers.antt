-- By the test of the count.
use mathlib.Core.Path.{◌∙◌, ap}
use native.Mathlib.Omega.{arith}
use lib.ListN.{length}
use Rattle.printed_lines.specs.Printed.{WroteLine, no_frame_line}
use borrow.Author.Tests.{eq-eqb, ne_eqb}
use Rattle.listing.specs.Pieces.{last_put, no_more}
use Rattle.listing.proofs.Printing.{put-length}
use Rattle.listing.proofs.no_more_frames.Goals as goal

pub returns-then-frames-gt0 : goal.returns-then-frames-gt0
unfolding no_more
returns-then-frames-gt0 c = rw (ne_eqb c.args.frames 0 (λ e. omega (arith, e)))

pub shape_of-out : goal.shape_of-out
shape_of-out c =
    let a = c.args in
    ap (λ (o : WroteLine). length o.out) c.no_frame_line.ensures ∙ put-length a.out.now a.at (no_frame_line a.address)

pub returns : goal.returns
unfolding no_more
returns c =
    rw (eq-eqb c.args.frames 0 (omega arith))
    (ap last_put c.no_frame_line.ensures)
