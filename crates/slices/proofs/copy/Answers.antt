-- `copy` meets its contract: as many bytes as have room are all that can be stored.
use mathlib.Core.Path.{◌≡◌, refl, sym, ◌∙◌}
use Rattle.std.proofs.Common.{arith}
use Rattle.slices.proofs.Bytes.{copied_more, sets-beyond}
use Rattle.slices.proofs.Fitting.{copied-part}
use Rattle.slices.proofs.copy.Goals as goal

pub loop-i-init : goal.loop-i-init
loop-i-init c = refl

pub loop-i-preserved : goal.loop-i-preserved
loop-i-preserved c = let a = c.args in copied_more a.s.now a.at a.t.now c.loop-i.s c.loop-i.i (omega arith) c.loop-i.invariant

pub returns-after-loop-i : goal.returns-after-loop-i
returns-after-loop-i c =
    let a = c.args in
    let e : c.loop-i.i ≡ c.min-n.result = omega arith in
    rw e at c.loop-i.invariant ∙ copied-part a.s.now a.t.now a.at c.min-n.result c.min-n.ensures

pub returns-else-at-s : goal.returns-else-at-s
returns-else-at-s c = let a = c.args in sym (sets-beyond a.t.now a.s.now a.at c.if-at-s.false)
