-- `lines_texts` meets its contract: every row passes the test.
use Rattle.std.proofs.Common.{◌∙◌, rules, tests}
use Rattle.std.proofs.lemmas.Iterator.{YieldsList-from_slice}
use Rattle.std.proofs.lemmas.Iterator.Search.{all_from_yields_List}
use Rattle.refusals.specs.Refusals.{line_texts?}
use Rattle.line_rows.proofs.Turns.{lines_tested}
use Rattle.line_rows.proofs.lines_texts.Goals as goal

pub returns : goal.returns
returns c =
    let t = c.args.text.now in
    all_from_yields_List (line_texts? t) _ _ c.all.result c.all.ensures.ran (YieldsList-from_slice c.args.lines.now cc) (λ x b q k. search (rules, tests)) ∙ lines_tested t c.args.lines.now
