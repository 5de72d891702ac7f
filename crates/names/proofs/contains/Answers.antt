-- `contains` is what `any` answers.
use Rattle.std.proofs.Common.{◌∙◌, rules, tests}
use Rattle.std.proofs.lemmas.Iterator.{YieldsList-from_slice}
use Rattle.std.proofs.lemmas.Iterator.Search.{any_from_yields_List}
use Rattle.names.specs.Names.{special}
use Rattle.names.proofs.Laws.{contains-any}
use Rattle.names.proofs.contains.Goals as goal

pub returns : goal.returns
returns c =
    let s = c.args.s.now in
    any_from_yields_List special _ _ _ c.any.ensures.ran (YieldsList-from_slice s cc) (λ x b q k. search (rules, tests)) ∙ contains-any s
