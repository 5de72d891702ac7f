-- `read_text` meets its contract: each answer by its law of proofs/TextLaws.antt. Assumes nothing.
use mathlib.Core.Path.{sym}
use native.Mathlib.Omega.{arith}
use Rattle.text.proofs.TextLaws.{prefix_within, absent-cut}
use Rattle.text.proofs.strings.read_text.Goals as goal

pub overflow_add-start : goal.overflow_add-start
overflow_add-start c =
    let p = c.in_ok-prefix.prefix in
    omega (arith, prefix_within c.args.section.now c.args.offset p.value p.len (sym c.in_ok-prefix.ensures))

pub overflow_sub-section : goal.overflow_sub-section
overflow_sub-section c =
    let p = c.in_ok-prefix.prefix in
    prefix_within c.args.section.now c.args.offset p.value p.len (sym c.in_ok-prefix.ensures)

pub returns-then-section-start : goal.returns-then-section-start
returns-then-section-start c =
    let p = c.in_ok-prefix.prefix in
    absent-cut c.args.section.now c.args.offset p.value p.len c.in_ok-prefix.ensures c.if-section-start.true

pub overflow_add-start-2 : goal.overflow_add-start-2
overflow_add-start-2 c =
    let p = c.in_ok-prefix.prefix in
    omega (arith, prefix_within c.args.section.now c.args.offset p.value p.len (sym c.in_ok-prefix.ensures))

pub slice_bounds-is_utf8-end : goal.slice_bounds-is_utf8-end
slice_bounds-is_utf8-end c =
    let p = c.in_ok-prefix.prefix in
    omega (arith, prefix_within c.args.section.now c.args.offset p.value p.len (sym c.in_ok-prefix.ensures))
