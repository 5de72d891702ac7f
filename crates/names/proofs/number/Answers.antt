use mathlib.Core.Path.{sym, ◌∙◌}
use native.Mathlib.Omega.{arith}
use Rattle.names.proofs.Laws.{digit-is, number_other, number-done, fits-done, fits-other, fits_more, fits-over}
use Rattle.names.proofs.number.Goals as goal

pub returns-then-not-is_ascii_digit : goal.returns-then-not-is_ascii_digit
returns-then-not-is_ascii_digit c =
    let s = c.args.s.now in
    number_other s (sym c.loop-b.invariant.1 ∙ fits-other s c.loop-b.b-index c.loop-b.value c.loop-b-test.true (sym (digit-is _) ∙ (sym c.is_ascii_digit.ensures.value ∙ c.if-not-is_ascii_digit.true)))

pub returns-then-from-value : goal.returns-then-from-value
returns-then-from-value c =
    let s = c.args.s.now in
    number_other s
    (sym c.loop-b.invariant.1
    ∙ fits_more s c.loop-b.b-index c.loop-b.value c.loop-b-test.true (sym (digit-is _) ∙ (sym c.is_ascii_digit.ensures.value ∙ c.if-not-is_ascii_digit.false))
    ∙ fits-over _ _ (omega arith))

pub loop-b-preserved : goal.loop-b-preserved
loop-b-preserved c =
    let s = c.args.s.now in (
      omega arith,
      rw c.from.ensures (sym (fits_more s c.loop-b.b-index c.loop-b.value c.loop-b-test.true (sym (digit-is _) ∙ (sym c.is_ascii_digit.ensures.value ∙ c.if-not-is_ascii_digit.false)))) ∙ c.loop-b.invariant.1,
    )

pub returns : goal.returns
returns c = number-done c.args.s.now _ c.is_empty.ensures (sym c.loop-b.invariant.1 ∙ fits-done c.args.s.now c.loop-b.b-index (omega arith) c.loop-b.invariant.0)
