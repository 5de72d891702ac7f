-- `write_entry` meets its contract: two numbers, one behind the other.
use Rattle.serialize.proofs.Rows.{entry-stored}
use Rattle.serialize.proofs.write_entry.Goals as goal

pub returns : goal.returns
returns c =
    let a = c.args in
    entry-stored a.out.now _ _ a.at a.start a.row c.store_u32.ensures c.store_u32-2.ensures
