-- `insert_source_location` meets its contract: by whether the start is free.
use mathlib.Core.Path.{◌∙◌}
use Rattle.memory.specs.Memory.{words_of}
use Rattle.steps.specs.Steps.{put_range}
use Rattle.steps.proofs.Ranges.{put_where_free, kept_where_held}
use Rattle.steps.proofs.insert_source_location.Goals as goal

pub returns-then-is_free_in-clause-put : goal.returns-then-is_free_in-clause-put
returns-then-is_free_in-clause-put c =
    let a = c.args in
    let w = words_of a.tables.now in
    λ X. c.insert_range.ensures.put ∙ put_where_free X a.start w (put_range a.start a.l w) c.is_free_in.ensures c.if-is_free_in.true

pub returns-else-is_free_in-clause-put : goal.returns-else-is_free_in-clause-put
returns-else-is_free_in-clause-put c =
    let a = c.args in
    let w = words_of a.tables.now in
    λ X. kept_where_held X a.start w (put_range a.start a.l w) c.is_free_in.ensures c.if-is_free_in.false
