-- `insert_end` meets its contract: by whether the start is vacant.
use mathlib.Core.Path.{◌∙◌}
use Rattle.memory.specs.Memory.{words_of}
use Rattle.steps.proofs.Ranges.{end_where_vacant, kept_where_taken}
use Rattle.steps.proofs.insert_end.Goals as goal

pub returns-then-is_vacant-clause-put : goal.returns-then-is_vacant-clause-put
returns-then-is_vacant-clause-put c =
    let a = c.args in
    λ X. c.insert_range.ensures.put ∙ end_where_vacant X a.end (words_of a.tables.now) c.is_vacant.ensures c.if-is_vacant.true

pub returns-else-is_vacant-clause-put : goal.returns-else-is_vacant-clause-put
returns-else-is_vacant-clause-put c =
    let a = c.args in
    λ X. kept_where_taken X a.end (words_of a.tables.now) c.is_vacant.ensures c.if-is_vacant.false
