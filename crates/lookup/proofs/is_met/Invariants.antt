-- The invariant: what is left of the walk decides.
use mathlib.Core.Path.{◌≡◌}
use Prim.Native.Nat.{◌-◌}
use Rattle.lookup.specs.Lookup.{met}
use Rattle.lookup.proofs.is_met.Given as goal

abbrev pub invariant-loop : goal.invariant-loop
invariant-loop l = met l.s l.c l.i l.at (l.steps - l.counter) ≡ met l.s l.c l.i l.first l.steps
