use mathlib.Core.Path.{◌∙◌}
use native.Mathlib.Omega.{arith}
use Rattle.tables.specs.Table.{link_at}
use Rattle.tables.proofs.Found.{found_at, found_none}
use Rattle.tables.proofs.Walk.{walk_none, walk-high, walk-found, walk-next}
use Rattle.tables.proofs.follow.Goals as goal

pub returns-then-hits : goal.returns-then-hits
returns-then-hits g c =
    let a = c.args in
    let h = c.if-at-bound.true in
    found_at a.n
    (walk-found (link_at a.t.now) (g.P.Probe.hits a.probe.now a.t.now) a.n c.loop-at.bound c.loop-at.at c.loop-at.invariant.same c.loop-at-test.true h
    c.hits.ensures c.if-hits.true)
    (omega (arith, c.loop-at.invariant.low))

pub loop-at-preserved : goal.loop-at-preserved
loop-at-preserved g c =
    let a = c.args in
    let h = c.if-at-bound.true in
    record {
      low = omega (arith, c.loop-at.invariant.low);
      same = walk-next (link_at a.t.now) (g.P.Probe.hits a.probe.now a.t.now) a.n c.loop-at.bound c.loop-at.at c.loop-at.invariant.same c.loop-at-test.true h
          c.hits.ensures c.if-hits.false c.link_at-at.ensures;
    }

pub returns-else-at-bound : goal.returns-else-at-bound
returns-else-at-bound g c =
    let a = c.args in
    found_none a.n (c.loop-at.invariant.same ∙ walk-high (link_at a.t.now) (g.P.Probe.hits a.probe.now a.t.now) a.n c.loop-at.bound c.loop-at.at c.if-at-bound.false)

pub returns-after-loop-at : goal.returns-after-loop-at
returns-after-loop-at g c =
    let a = c.args in
    found_none a.n (c.loop-at.invariant.same ∙ walk_none (link_at a.t.now) (g.P.Probe.hits a.probe.now a.t.now) a.n c.loop-at.bound c.loop-at.at c.loop-at-test.false)
