-- The test of the room; the bytes by the stores.
use mathlib.Core.Path.{refl, sym, ◌∙◌}
use Rattle.printed_lines.proofs.Whole.{bad-length, no-room, bad-bytes}
use Rattle.printed_lines.proofs.bad_line.Goals as goal

pub returns-then-not-inside : goal.returns-then-not-inside
returns-then-not-inside c =
    let a = c.args in
    no-room a.out.now _ a.at 11 (bad-length a.number) (sym c.inside.ensures ∙ c.if-not-inside.true)

pub returns : goal.returns
returns c = rw (bad-bytes c.args.number refl c.put_spaced.ensures) at c.put_line.ensures
