-- `process_symbolic_symbol` meets its contract: by its two tests.
use mathlib.Core.List.{[]}
use Rattle.memory.specs.Memory.{memory_of}
use Rattle.symbol_call.proofs.CallLaws.{symbol-taken, symbol_unreadable, symbol-closed}
use Rattle.symbol_call.proofs.process_symbolic_symbol.Goals as goal

pub returns-then-not-is_usable-clause-left : goal.returns-then-not-is_usable-clause-left
returns-then-not-is_usable-clause-left c =
    let a = c.args in
    symbol-closed a.converter.now (memory_of a.tables.now) a.text.now a.address a.size a.name c.lengths.ensures c.is_usable.ensures c.if-not-is_usable.true

pub returns-then-not-optional-clause-left : goal.returns-then-not-optional-clause-left
returns-then-not-optional-clause-left c =
    let a = c.args in
    symbol_unreadable a.converter.now (memory_of a.tables.now) a.text.now a.address a.size a.name c.lengths.ensures c.is_usable.ensures
    c.if-not-is_usable.false c.optional.ensures c.if-not-optional.true

pub returns-clause-left : goal.returns-clause-left
returns-clause-left c =
    let a = c.args in
    symbol-taken a.converter.now (memory_of a.tables.now) a.text.now a.address a.size a.name c.lengths.ensures c.is_usable.ensures
    c.if-not-is_usable.false c.optional.ensures c.if-not-optional.false (c.process_symbol.ensures.converted a.converter.now.undecorate_functions) (c.finish-answer.ensures.left [])
