-- The invariant: what is still to be read decides.
use mathlib.Core.Path.{◌≡◌}
use Prim.Native.Nat.{◌-◌}
use Rattle.lookup.specs.Lookup.{next_function}
use Rattle.lookup.proofs.next_function.Given as goal

abbrev pub invariant-loop-index : goal.invariant-loop-index
invariant-loop-index l = next_function l.s l.c l.index (l.c.num_functions - l.index) ≡ next_function l.s l.c l.from (l.c.num_functions - l.from)
