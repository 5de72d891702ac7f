-- The line where there is room (`bad-printed`), and nothing where there is none (`bad_no_room`).
use mathlib.Core.Path.{sym, ◌∙◌, ap}
use lib.ListN.{length}
use borrow.Author.Tests.{not-true, not-false}
use Rattle.printed_lines.specs.Printed.{WroteLine, bad_line}
use Rattle.listing.proofs.Printing.{bad_no_room, bad-printed, put-length}
use Rattle.listing.proofs.print_bad.Goals as goal

pub returns-then-not-has_room : goal.returns-then-not-has_room
returns-then-not-has_room c =
    let a = c.args in
    bad_no_room a.number a.out.now a.at (sym c.has_room.ensures ∙ not-true c.has_room.result c.if-not-has_room.true-raw)

pub shape_of-out : goal.shape_of-out
shape_of-out c =
    let a = c.args in
    ap (λ (o : WroteLine). length o.out) c.bad_line.ensures ∙ put-length a.out.now a.at (bad_line a.number)

pub returns : goal.returns
returns c =
    let a = c.args in
    bad-printed a.number a.out.now a.at
    (sym c.has_room.ensures ∙ not-false c.has_room.result c.if-not-has_room.false-raw) c.bad_line.ensures
