-- `text_part` meets its contract. Assumes nothing.
use mathlib.Core.Path.{sym}
use native.Mathlib.Omega.{arith}
use Rattle.text.proofs.TextLaws.{text-within}
use Rattle.text.proofs.strings.text_part.Goals as goal

pub overflow_add-result : goal.overflow_add-result
overflow_add-result c =
    let t = c.in-Some.text in
    omega (arith, text-within c.args.section.now c.args.offset t.start t.len (sym c.in-Some.ensures))

pub slice_bounds-result-end : goal.slice_bounds-result-end
slice_bounds-result-end c =
    let t = c.in-Some.text in
    text-within c.args.section.now c.args.offset t.start t.len (sym c.in-Some.ensures)
