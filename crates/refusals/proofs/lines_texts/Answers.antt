-- `refusals::lines_texts` meets its contract: every row passes the test.
use Rattle.std.proofs.Common.{ℕ, refl, arith, rules, tests}
use Rattle.std.proofs.lemmas.Iterator.{YieldsList-from_range}
use Rattle.std.proofs.lemmas.Iterator.Search.{all_from_yields_List}
use Rattle.rows.specs.Columns.{line_in_columns}
use Rattle.refusals.specs.Refusals.{line_texts?}
use Rattle.refusals.proofs.Laws.{each_found}
use Rattle.refusals.proofs.lines_texts.Goals as goal

pub returns : goal.returns
returns c =
    let t = c.args.text.now in
    let r = c.args.lines in
    let n = c.len.result in
    each_found (λ (i : ℕ). line_texts? t (line_in_columns r.columns64.now r.columns32.now i)) c.len.ensures
    (all_from_yields_List (λ (i : ℕ). line_texts? t (line_in_columns r.columns64.now r.columns32.now i)) _ _ c.all.result c.all.ensures.ran (YieldsList-from_range 0 n n refl (omega arith)) (λ x b q k. search (rules, tests)))
