-- `insert_self_range` meets its contract.
use Rattle.memory.specs.Memory.{words_of}
use Rattle.steps.specs.Steps.{put_range}
use Rattle.writer.proofs.LineLaws.{self_range, no_self_range}
use Rattle.writer.proofs.lines.insert_self_range.Goals as goal

pub returns-then-current_address-inline_start-clause-put : goal.returns-then-current_address-inline_start-clause-put
returns-then-current_address-inline_start-clause-put c =
    let a = c.args in
    let w = words_of a.tables.now in
    self_range a.current_address a.inline_start (put_range a.current_address a.source_location w) w _ c.if-current_address-inline_start.true c.insert_range.ensures.put

pub returns-else-current_address-inline_start-clause-put : goal.returns-else-current_address-inline_start-clause-put
returns-else-current_address-inline_start-clause-put c =
    let a = c.args in
    let w = words_of a.tables.now in
    no_self_range a.current_address a.inline_start (put_range a.current_address a.source_location w) w c.if-current_address-inline_start.false
