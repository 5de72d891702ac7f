use mathlib.Core.Path.{◌≡◌, ap, ◌∙◌}
use native.Mathlib.Omega.{arith}
use lib.ListN.{length}
use Rattle.tables.specs.Kinds.{location_of_lem}
use Rattle.serialize.proofs.Ranges.{length-turned, turned_none, turned-step, turned-all}
use Rattle.serialize.proofs.write_ranges.Goals as goal

pub loop-k-init : goal.loop-k-init
loop-k-init c =
    let a = c.args in
    turned_none a.ranges.now a.out.now a.at a.count

pub loop-k-preserved : goal.loop-k-preserved
loop-k-preserved c =
    let a = c.args in
    turned-step a.ranges.now a.out.now a.at a.count c.loop-k.k c.loop-k.out c.loop-k.invariant (omega arith) _ _ _ _ _
    c.load_u32-start.ensures
    c.load_u32-row.ensures
    (ap (λ r. r.location) c.from.ensures ∙ ap location_of_lem c.row_at.ensures)
    c.write.ensures
    c.write-in-loop-k.ensures

pub shape_of-out : goal.shape_of-out
shape_of-out c = let a = c.args in ap length c.loop-k.invariant ∙ length-turned a.ranges.now a.out.now a.at a.count c.loop-k.k

pub returns : goal.returns
returns c =
    let a = c.args in
    let e : c.loop-k.k ≡ a.count = omega arith in
    (rw e at c.loop-k.invariant) ∙ turned-all a.ranges.now a.out.now a.at a.count
