-- `process_unpacked` meets its contract: a refusal that was given, or what `convert_unpacked` leaves.
use Rattle.errors.proofs.Laws.{number-not_0}
use Rattle.memory.specs.Memory.{memory_of}
use Rattle.c_trees.proofs.LinesLaws.{unpacked_refused}
use Rattle.c_trees.proofs.process_unpacked.Goals as goal

pub returns-in-Err-clause-left : goal.returns-in-Err-clause-left
returns-in-Err-clause-left c =
    let a = c.args in
    rw c.in-Err.is
    (unpacked_refused _ a.lines a.«record».now (memory_of a.tables.now) a.scratch.now a.unpacked64.now a.unpacked32.now
    a.functions.columns64.now a.functions.columns32.now a.text.now (number-not_0 c.in-Err.refusal))
