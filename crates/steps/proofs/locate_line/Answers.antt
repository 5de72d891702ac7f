-- `locate_line` meets its contract: `locate_law`.
use Rattle.memory.specs.Memory.{words_of}
use Rattle.steps.specs.Steps.{six_of}
use Rattle.steps.proofs.Laws.{locate_law}
use Rattle.steps.proofs.locate_line.Goals as goal

pub returns-clause-located : goal.returns-clause-located
returns-clause-located c =
    let a = c.args in
    locate_law (six_of a.text.now a.comp_dir a.line) a.line.number a.function_idx a.inlined_into_idx (words_of a.tables.now)
    c.insert_texts-texts.ensures.stored c.insert_file-file_idx.ensures.added
