use mathlib.Core.Path.{refl, sym, ◌∙◌, ap}
use native.Mathlib.Omega.{arith}
use lib.ListN.{length, drop}
use Rattle.input_lines.proofs.Pieces.{read_past}
use Rattle.input_lines.specs.declared.ReadOn.{ReadOn}
use Rattle.listing.specs.Pieces.{PrintedOut, printed_out, list_from, list_of}
use Rattle.listing.proofs.Printing.{print_length}
use Rattle.listing.proofs.Calls.{list-turn, list_done, list_waits}
use Rattle.listing.proofs.list.Goals as goal

pub loop-used-init : goal.loop-used-init
loop-used-init c = (refl, refl)

pub loop-used-smaller : goal.loop-used-smaller
loop-used-smaller c =
    let a = c.args in
    let past = read_past c.loop-used.input a.piece.now c.loop-used.used c.loop-used-test.true in
    let next = ap (λ (r : ReadOn). r.next) c.read-read.ensures in
    omega (arith, past, next, c.loop-used-test.true)

pub loop-used-preserved : goal.loop-used-preserved
loop-used-preserved c =
    let a = c.args in
    let p = printed_out c.loop-used.printed.waiting c.loop-used.printed.at c.loop-used.out in (
      ap (λ (o : PrintedOut). length o.out) c.print-printed-in-loop-used.ensures ∙ print_length a.file.now c.waiting_for.result c.loop-used.out c.loop-used.printed.at ∙ c.loop-used.invariant.0,
      list-turn a.file.now a.listing.cache c.loop-used.input p a.piece.now c.loop-used.used c.read-read.result c.waiting_for.result _
          (sym c.waits.ensures ∙ c.if-waits.false) c.read-read.ensures c.waiting_for.ensures c.print-printed-in-loop-used.ensures
          ∙ c.loop-used.invariant.1,
    )

pub shape_of-out-after-loop-used : goal.shape_of-out-after-loop-used
shape_of-out-after-loop-used c =
    let a = c.args in
    c.loop-used.invariant.0
    ∙ ap (λ (o : PrintedOut). length o.out) c.print-printed.ensures ∙ print_length a.file.now a.listing.waiting a.out.now 0

pub returns-after-loop-used : goal.returns-after-loop-used
unfolding list_of
returns-after-loop-used c =
    let a = c.args in
    let p = printed_out c.loop-used.printed.waiting c.loop-used.printed.at c.loop-used.out in
    list_done a.file.now a.listing.cache c.loop-used.input p a.piece.now c.loop-used.used c.loop-used-test.false ∙ c.loop-used.invariant.1
    ∙ ap (λ (o : PrintedOut). list_from a.file.now a.listing.cache a.listing.input o 0 a.piece.now) c.print-printed.ensures

pub shape_of-out-then-waits : goal.shape_of-out-then-waits
shape_of-out-then-waits c =
    let a = c.args in
    c.loop-used.invariant.0
    ∙ ap (λ (o : PrintedOut). length o.out) c.print-printed.ensures ∙ print_length a.file.now a.listing.waiting a.out.now 0

pub returns-then-waits : goal.returns-then-waits
unfolding list_of
returns-then-waits c =
    let a = c.args in
    let p = printed_out c.loop-used.printed.waiting c.loop-used.printed.at c.loop-used.out in
    list_waits a.file.now a.listing.cache c.loop-used.input p (drop c.loop-used.used a.piece.now) c.loop-used.used (sym c.waits.ensures ∙ c.if-waits.true) ∙ c.loop-used.invariant.1
    ∙ ap (λ (o : PrintedOut). list_from a.file.now a.listing.cache a.listing.input o 0 a.piece.now) c.print-printed.ensures
