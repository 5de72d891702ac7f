-- `insert_texts` meets its contract: `six_law`.
use mathlib.Core.Path.{ap, ◌∙◌}
use Rattle.memory.specs.Memory.{words_of}
use Rattle.tables.specs.declared.Row.{Row}
use Rattle.steps.specs.Steps.{gave, six_of}
use Rattle.steps.proofs.Laws.{six_law}
use Rattle.steps.proofs.insert_texts.Goals as goal

pub returns-clause-stored : goal.returns-clause-stored
unfolding six_of
returns-clause-stored c =
    let a = c.args in
    ap (λ (row : Row). gave row (words_of c.insert_optional-revision.new.tables)) c.from.ensures
    ∙ six_law (six_of a.text.now a.comp_dir a.line) (words_of a.tables.now)
    c.insert_part-name.ensures.stored c.insert_part-directory.ensures.stored c.insert_part-dir.ensures.stored
    c.insert_optional-srcsrv_name.ensures.stored c.insert_optional-srcsrv_dir.ensures.stored c.insert_optional-revision.ensures.stored
