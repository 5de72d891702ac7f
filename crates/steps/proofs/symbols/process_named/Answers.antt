-- `process_named` meets its contract: `named_law`.
use Rattle.memory.specs.Memory.{words_of}
use Rattle.steps.specs.Symbols.{switches, named_row}
use Rattle.steps.proofs.SymbolLaws.{named_law}
use Rattle.steps.proofs.symbols.process_named.Goals as goal

pub returns-clause-converted : goal.returns-clause-converted
returns-clause-converted c =
    let a = c.args in
    λ b.
    let X = switches b a.undecorate in
    named_law X (named_row a.address a.size a.name.now) (words_of a.tables.now)
    c.shown_name.ensures c.insert_string-name_offset.ensures.stored (c.insert_symbol.ensures.put X) (c.insert_symbol_end.ensures.put X a.name.now)
