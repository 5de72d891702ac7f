-- `begin_function` meets its contract: `begin_law`.
use mathlib.Core.Bool.{cond}
use Rattle.memory.specs.Memory.{words_of}
use Rattle.names.specs.Names.{undecorated}
use Rattle.steps.proofs.Laws.{begin_law}
use Rattle.steps.proofs.begin_function.Goals as goal

pub returns-clause-begun : goal.returns-clause-begun
returns-clause-begun c =
    let a = c.args in
    begin_law (cond a.undecorate (undecorated a.name.now) a.name.now) a.entry_pc a.lang (words_of a.tables.now)
    c.shown_name.ensures c.insert_string-name_offset.ensures.stored c.insert_function.ensures.added
