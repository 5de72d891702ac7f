use Prim.Native.Nat.{ℕ, ◌+◌}
use mathlib.Core.Path.{sym, ap, ◌∙◌}
use native.Mathlib.Omega.{arith}
use Rattle.rows.specs.Columns.{function_in_columns}
use Rattle.rows.specs.declared.FunctionRow.{FunctionRow}
use Rattle.refusals.proofs.Laws.{each-end, depths-first, depths-not-first, depths-zero, depths-high, depths-more, depths-most}
use borrow.Author.Rules.{rules}
use Rattle.refusals.proofs.depths.Goals as goal
use Rattle.refusals.proofs.depths.Goals.{then-depth-eq0-via-then-depth-eq0, then-depth-eq0-via-else-depth-eq0+then-most-depth}

abbrev depth-of : FunctionRow → ℕ
depth-of q = q.depth

pub returns-then-row-ne0 : goal.returns-then-row-ne0
returns-then-row-ne0 c = depths-not-first _ _ (search rules) (λ z. c.if-row-ne0.true (ap depth-of c.row.ensures ∙ z))

pub loop-i-init : goal.loop-i-init
loop-i-init c =
    let e = sym (ap depth-of c.row.ensures) ∙ c.if-row-ne0.false in
    (omega arith, depths-first _ e, sym (ap (λ (m : ℕ). m + 1) e))

pub returns-then-depth-eq0 : goal.returns-then-depth-eq0
returns-then-depth-eq0 c =
    let e = c.from-depth.ensures ∙ ap depth-of c.row-in-loop-i.ensures in
    elim c.then-depth-eq0.branch [
      | then-depth-eq0-via-then-depth-eq0 w ↦ depths-zero _ _ c.loop-i.i c.loop-i.invariant.0 (omega (arith, c.loop-i-test.true)) (sym e ∙ w.if-depth-eq0.true)
      | then-depth-eq0-via-else-depth-eq0+then-most-depth w ↦
          depths-high _ _ c.loop-i.i c.loop-i.most c.loop-i.invariant.0 (omega (arith, c.loop-i-test.true)) c.loop-i.invariant.2 (rw e at w.if-most-depth.true)
    ]

pub loop-i-preserved : goal.loop-i-preserved
loop-i-preserved c =
    let a = c.args in
    let e = c.from-depth.ensures ∙ ap depth-of c.row-in-loop-i.ensures in (
      omega arith,
      depths-more _ _ _ c.loop-i.invariant.0 c.loop-i.invariant.1 c.loop-i.invariant.2 (λ z. c.if-depth-eq0.false (e ∙ z)) (rw e at c.if-most-depth.false),
      depths-most (λ (r : ℕ). (function_in_columns a.functions.columns64.now a.functions.columns32.now r).depth) c.loop-i.i _ e,
    )

pub returns : goal.returns
returns c = each-end _ _ _ (omega arith) (omega arith) c.loop-i.invariant.1
