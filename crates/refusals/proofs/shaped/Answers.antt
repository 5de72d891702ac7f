-- `refusals::shaped` meets its contract: the tests one after the other.
use Prim.Native.Nat.{ℕ}
use mathlib.Core.Path.{sym, ap, ◌∙◌}
use native.Mathlib.Omega.{arith}
use lib.Dec.{eqb}
use Rattle.slices.proofs.Cases.{and-stop, and_then}
use Rattle.refusals.specs.Refusals.{shaped_with?}
use Rattle.refusals.proofs.Laws.{count_yes, count-many, count_none}
use Rattle.refusals.proofs.shaped.Goals as goal
use Rattle.refusals.proofs.shaped.Goals.{then-n-eq0-via-then-n-eq0, then-n-eq0-via-else-n-eq0+then-n-gt65536}

pub returns-then-not-function_lengths : goal.returns-then-not-function_lengths
unfolding shaped_with?
returns-then-not-function_lengths c = and-stop _ _ (sym c.function_lengths.ensures ∙ c.if-not-function_lengths.true)

pub returns-then-n-eq0 : goal.returns-then-n-eq0
unfolding shaped_with?
returns-then-n-eq0 c =
    and_then _ _ _ (sym c.function_lengths.ensures ∙ c.if-not-function_lengths.false)
    (elim c.then-n-eq0.branch [
      | then-n-eq0-via-then-n-eq0 w ↦ and-stop _ _ (count_none _ (sym c.len-n.ensures ∙ w.if-n-eq0.true))
      | then-n-eq0-via-else-n-eq0+then-n-gt65536 w ↦ and-stop _ _ (count-many _ (omega (arith, w.if-n-gt65536.true)))
    ])

pub returns-then-depths : goal.returns-then-depths
unfolding shaped_with?
returns-then-depths c =
    let m = c.args.lines in
    and_then _ _ _ (sym c.function_lengths.ensures ∙ c.if-not-function_lengths.false)
    (and_then _ _ _ (count_yes _ (λ z. c.if-n-eq0.false (c.len-n.ensures ∙ z)) (omega (arith, c.if-n-gt65536.false)))
    (and_then _ _ _ (sym c.depths.ensures ∙ c.if-depths.true) (ap (λ (s : ℕ). eqb s m) c.line_count.ensures)))

pub returns-else-depths : goal.returns-else-depths
unfolding shaped_with?
returns-else-depths c =
    and_then _ _ _ (sym c.function_lengths.ensures ∙ c.if-not-function_lengths.false)
    (and_then _ _ _ (count_yes _ (λ z. c.if-n-eq0.false (c.len-n.ensures ∙ z)) (omega (arith, c.if-n-gt65536.false)))
    (c.if-depths.false ∙ and-stop _ _ (sym c.depths.ensures ∙ c.if-depths.false)))
