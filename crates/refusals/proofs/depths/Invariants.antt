-- `refusals::depths` meets its contract. The loop's invariant: the depths of the rows passed are right, and `most` is the last of them plus 1.
use Prim.Native.Nat.{ℕ, ◌≤◌, ◌+◌, ◌-◌}
use mathlib.Core.Path.{◌≡◌}
use mathlib.Core.Bool.{true}
use Rattle.rows.specs.Columns.{function_in_columns}
use Rattle.refusals.specs.Refusals.{each, depth?}
use Rattle.refusals.proofs.depths.Given as goal

abbrev pub invariant-loop-i : goal.invariant-loop-i
invariant-loop-i l =
    let depth = λ (r : ℕ). (function_in_columns l.functions.columns64.now l.functions.columns32.now r).depth in
    (1 ≤ l.i) × (each (depth? depth) l.i ≡ true) × (l.most ≡ depth (l.i - 1) + 1)
