-- `refusals::line_count` meets its contract. The loop's invariant: the sum is that of the rows passed, each below 2^32.
use Prim.Native.Nat.{ℕ, ◌≤◌, ◌*◌}
use mathlib.Core.Path.{◌≡◌}
use Rattle.rows.specs.Columns.{function_in_columns}
use Rattle.refusals.specs.Refusals.{total}
use Rattle.refusals.proofs.line_count.Given as goal

abbrev pub invariant-loop-i : goal.invariant-loop-i
invariant-loop-i l =
    (l.sum ≡ total (λ (r : ℕ). (function_in_columns l.functions.columns64.now l.functions.columns32.now r).lines) l.i) × (l.sum ≤ 4294967295 * l.i)
