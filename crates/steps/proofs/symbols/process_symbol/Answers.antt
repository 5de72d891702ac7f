-- `process_symbol` meets its contract: by whether it is named, and by its address.
use Rattle.memory.specs.Memory.{words_of}
use Rattle.steps.specs.Symbols.{switches}
use Rattle.steps.proofs.SymbolLaws.{symbol-named, symbol-above, symbol-unnamed}
use Rattle.steps.proofs.symbols.process_symbol.Goals as goal
use Rattle.steps.proofs.symbols.process_symbol.Goals.{else-name-via-then-name+else-address-le-MAX, else-name-via-else-name}

pub returns-then-address-le-MAX-clause-converted : goal.returns-then-address-le-MAX-clause-converted
returns-then-address-le-MAX-clause-converted c =
    let a = c.args in
    λ b.
    symbol-named (switches b a.undecorate) a.text.now a.address a.size a.name (words_of a.tables.now)
    c.if-name.true c.if-address-le-MAX.true c.part.ensures (c.process_named.ensures.converted b)

pub returns-else-name-clause-converted : goal.returns-else-name-clause-converted
returns-else-name-clause-converted c =
    let a = c.args in
    λ b.
    let X = switches b a.undecorate in
    let w = words_of a.tables.now in
    elim c.else-name.branch [
      | else-name-via-then-name+else-address-le-MAX v ↦ symbol-above X a.text.now a.address a.size a.name w v.if-name.true v.if-address-le-MAX.false
      | else-name-via-else-name v ↦ symbol-unnamed X a.text.now a.address a.size a.name w v.if-name.false
    ]
