-- `refusals::shallow` meets its contract: every row passes the test.
use Rattle.std.proofs.Common.{ℕ, refl, arith, rules, tests}
use Rattle.std.proofs.lemmas.Iterator.{YieldsList-from_range}
use Rattle.std.proofs.lemmas.Iterator.Search.{all_from_yields_List}
use Rattle.rows.specs.Columns.{function_in_columns}
use Rattle.refusals.specs.Refusals.{shallow_row?}
use Rattle.refusals.proofs.Laws.{each_found}
use Rattle.refusals.proofs.shallow.Goals as goal

pub returns : goal.returns
unfolding shallow_row?
returns c =
    let r = c.args.functions in
    let n = c.len.result in
    each_found (λ (i : ℕ). shallow_row? (function_in_columns r.columns64.now r.columns32.now i)) c.len.ensures
    (all_from_yields_List (λ (i : ℕ). shallow_row? (function_in_columns r.columns64.now r.columns32.now i)) _ _ c.all.result c.all.ensures.ran (YieldsList-from_range 0 n n refl (omega arith)) (λ x b q k. search (rules, tests)))
