-- `insert_call_location` meets its contract: `call_law`.
use mathlib.Core.Path.{ap, ◌∙◌}
use Rattle.tables.specs.Table.{insert_of}
use Rattle.tables.specs.declared.Row.{Row}
use Rattle.memory.specs.Memory.{words_of}
use Rattle.steps.proofs.Laws.{call_law}
use Rattle.steps.proofs.insert_call_location.Goals as goal

pub returns-clause-added : goal.returns-clause-added
returns-clause-added c =
    let w = words_of c.args.tables.now in
    call_law w c.args.l (c.insert_full-got.ensures ∙ ap (λ (row : Row). insert_of 6 w.mm.calls w.st.call_locations row) c.from-row.ensures)
