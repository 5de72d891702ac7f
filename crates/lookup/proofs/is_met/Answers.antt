use native.Mathlib.Omega.{arith}
use mathlib.Core.Path.{◌∙◌}
use Prim.Native.Nat.{◌+◌, ◌-◌}
use Rattle.lookup.proofs.LookupLaws.{met-further}
use Rattle.lookup.proofs.is_met.Goals as goal

pub loop-preserved : goal.loop-preserved
loop-preserved c =
    let a = c.args in
    let k = c.loop in
    rw c.location_in-location.ensures
    (met-further a.s.now a.c a.i k.at (a.steps - k.counter) (omega arith) (a.steps - (k.counter + 1)) (omega arith) c.if-at-i.false c.if-c-at.false ∙ k.invariant)
