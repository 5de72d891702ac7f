-- `begin` meets its contract.
use native.Mathlib.Omega.{arith}
use Rattle.memory.specs.Memory.{memory_of}
use Rattle.c_begin.proofs.BeginLaws.{begin_law}
use Rattle.c_begin.proofs.begin.Goals as goal

pub returns-clause-left : goal.returns-clause-left
returns-clause-left c =
    let a = c.args in
    begin_law a.«record».now a.debug_id.now a.arch a.undecorate_functions a.undecorate_symbols (memory_of a.tables.now)
    (omega arith) c.debug_id_of.ensures c.is_set.ensures c.is_set-2.ensures c.begin-converter.ensures.begun c.store.ensures
