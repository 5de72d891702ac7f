-- `store` meets its contract: the parts of the record, one after the other.
use Rattle.c_words.proofs.RecordLaws.{record_stored}
use Rattle.c_words.proofs.record.store.Goals as goal

pub returns : goal.returns
returns c =
    let a = c.args in
    record_stored a.«record».now a.c c.put_id.ensures c.put_switches.ensures c.put_counts.ensures c.put_clamped.ensures c.flag.ensures c.put.ensures
