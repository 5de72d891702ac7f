-- The invariant of `number`: what is left, read after the value so far, has the answer of the whole, and the value fits 32 bits.
use Rattle.std.proofs.Common.{◌≡◌, ◌≤◌, drop}
use Rattle.names.proofs.Laws.{fits}
use Rattle.names.proofs.number.Given as goal

abbrev pub invariant-loop-b : goal.invariant-loop-b
invariant-loop-b l = (l.value ≤ 4294967295) × (fits l.value (drop l.b-index l.s) ≡ fits 0 l.s)
