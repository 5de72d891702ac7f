-- `insert_optional` meets its contract: the part is the one it has, or the empty one.
use mathlib.Core.Path.{ap}
use Rattle.memory.specs.Memory.{words_of}
use Rattle.rows.specs.Columns.{text_of}
use Rattle.rows.specs.declared.TextPart.{TextPart}
use Rattle.steps.proofs.Laws.{store_same}
use Rattle.steps.proofs.insert_optional.Goals as goal

pub returns-clause-stored : goal.returns-clause-stored
returns-clause-stored c =
    let a = c.args in
    store_same (words_of a.tables.now) c.insert_part.ensures.stored (ap (λ (p : TextPart). text_of a.text.now p) c.or_empty.ensures)
