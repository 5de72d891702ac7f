-- `clamped` meets its contract: two words.
use Rattle.c_words.proofs.RecordLaws.{clamped_read}
use Rattle.c_words.proofs.record.clamped.Goals as goal

pub returns : goal.returns
returns c =
    let a = c.args in
    clamped_read a.«record».now c.word-low.result c.word-high.result c.word-low.ensures c.word-high.ensures
