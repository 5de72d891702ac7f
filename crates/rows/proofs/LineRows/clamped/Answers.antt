-- `LineRows::clamped` meets its contract: among the numbers of all rows it counts those that were cut back.
use Rattle.std.proofs.Common.{rules, tests, arith}
use Rattle.std.proofs.lemmas.Iterator.{YieldsList-from_range}
use Rattle.std.proofs.lemmas.Iterator.Consumers.{count_from_yields_List, YieldsList-from_filter}
use Rattle.rows.specs.Clamped.{cut_at}
use Rattle.rows.proofs.ClampedLaws.{clamped_found}
use Rattle.rows.proofs.LineRows.clamped.Goals as goal

pub returns : goal.returns
returns c =
    let l = c.args.self in
    let n = c.len.result in
    clamped_found l.columns64.now l.columns32.now n c.len.ensures
    (count_from_yields_List c.filter.result _ c.count.ensures.ran
    (YieldsList-from_filter _ (cut_at l.columns64.now l.columns32.now) (YieldsList-from_range 0 n n c.filter.ensures.source (omega arith)) c.filter.ensures.closure (λ x b q k. search (rules, tests))))
