-- `insert_function` meets its contract: `function_law`.
use mathlib.Core.Path.{ap, ◌∙◌}
use Rattle.tables.specs.Table.{insert_of}
use Rattle.tables.specs.declared.Row.{Row}
use Rattle.memory.specs.Memory.{words_of}
use Rattle.steps.proofs.Laws.{function_law}
use Rattle.steps.proofs.insert_function.Goals as goal

pub returns-clause-added : goal.returns-clause-added
returns-clause-added c =
    let a = c.args in
    let w = words_of a.tables.now in
    function_law w a.name_offset a.entry_pc a.lang
    (c.insert_full-got.ensures ∙ ap (λ (row : Row). insert_of 6 w.mm.functions w.st.functions row) c.from-row.ensures)
