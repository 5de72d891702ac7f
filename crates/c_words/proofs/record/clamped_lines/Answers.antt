-- `clamped_lines` meets its contract: what the record that is read hands out.
use Rattle.c_words.proofs.RecordLaws.{handed_out}
use Rattle.c_words.proofs.record.clamped_lines.Goals as goal

pub returns : goal.returns
returns c =
    let a = c.args in
    handed_out a.«record».now c.load.ensures c.clamped_lines.ensures
