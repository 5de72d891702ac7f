-- The four parts make the row, and the row is copied.
use Rattle.std.proofs.Common.{rules}
use Rattle.slices.specs.Bytes.{le}
use Rattle.raw.proofs.Rows.{header_made}
use Rattle.raw.proofs.HeaderStored.write.Goals as goal

pub returns : goal.returns
unfolding le
returns c =
    let a = c.args in
    header_made a.self a.s.now a.at (search rules) (search rules) c.copy.ensures c.store_words.ensures (rw c.to_le_bytes.ensures at c.copy-2.ensures) c.copy-3.ensures c.copy-4.ensures
