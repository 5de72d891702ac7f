-- `process_unpacked_by_code` meets its contract: a number that was given, or what `convert_unpacked` leaves.
use Rattle.memory.specs.Memory.{memory_of}
use Rattle.c_trees.proofs.LinesLaws.{unpacked_refused}
use Rattle.c_trees.proofs.process_unpacked_by_code.Goals as goal

pub returns-then-refused-ne0-clause-left : goal.returns-then-refused-ne0-clause-left
returns-then-refused-ne0-clause-left c =
    let a = c.args in
    unpacked_refused a.refused a.lines a.«record».now (memory_of a.tables.now) a.scratch.now a.unpacked64.now a.unpacked32.now
    a.functions.columns64.now a.functions.columns32.now a.text.now c.if-refused-ne0.true

pub returns-clause-left : goal.returns-clause-left
returns-clause-left c = rw (c.code_of.ensures, c.if-refused-ne0.false) c.convert_unpacked.ensures.left
