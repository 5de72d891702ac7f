-- `write_sorted` meets its contract: the entries are stored, sorted, and written over by the locations and the starts.
use Prim.Native.Nat.{◌+◌, ◌*◌, ◌-◌}
use native.Mathlib.Omega.{arith}
use Rattle.serialize.proofs.Sorted.{written-sorted}
use borrow.Author.Rules.{rules}
use Rattle.serialize.proofs.write_sorted.Goals as goal

pub returns : goal.returns
returns c =
    let a = c.args in
    written-sorted a.ranges.now (λ j. omega (arith, c.shared_slice_known-1.given j)) a.count (search rules) a.out.now a.at (search rules)
    c.write_entries.new.out
    c.sort_entries.new.out
    c.write_ranges.new.out
    (a.at + a.count * 16 - (a.at + a.count * 8))
    c.write_entries.ensures
    (omega arith)
    c.sort_entries.ensures
    c.write_ranges.ensures
