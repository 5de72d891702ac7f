-- `insert_symbol` meets its contract: by whether the start is free.
use Rattle.memory.specs.Memory.{words_of}
use Rattle.steps.proofs.SymbolLaws.{symbol-placed, symbol-kept}
use Rattle.steps.proofs.symbols.insert_symbol.Goals as goal

pub returns-then-is_free_in-clause-put : goal.returns-then-is_free_in-clause-put
returns-then-is_free_in-clause-put c =
    let a = c.args in
    λ X.
    symbol-placed X a.name_offset a.address (words_of a.tables.now) c.is_free_in.ensures c.if-is_free_in.true
    c.insert_function-function_idx.ensures.added c.insert_range.ensures.put

pub returns-else-is_free_in-clause-put : goal.returns-else-is_free_in-clause-put
returns-else-is_free_in-clause-put c =
    let a = c.args in
    λ X. symbol-kept X a.name_offset a.address (words_of a.tables.now) c.is_free_in.ensures c.if-is_free_in.false
