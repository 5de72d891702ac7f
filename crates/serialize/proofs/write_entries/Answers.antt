use Prim.Native.Nat.{ℕ, ◌+◌, ◌*◌}
use mathlib.Core.Path.{◌≡◌, refl, ap, ◌∙◌}
use native.Mathlib.Omega.{arith}
use lib.ListN.{length}
use lib.Seq.{sets, length-sets}
use Rattle.slices.specs.Bytes.{table_bytes}
use Rattle.tables.specs.Table.{rows_from}
use Rattle.serialize.specs.Sections.{entries, entry_row}
use Rattle.serialize.proofs.Rows.{entries-turn}
use Rattle.serialize.proofs.write_entries.Goals as goal

pub loop-i-init : goal.loop-i-init
unfolding table_bytes rows_from entries
loop-i-init c = refl

pub write_entry-requires : goal.write_entry-requires
write_entry-requires c =
    let a = c.args in
    let e : length c.loop-i.out ≡ length a.out.now = ap length c.loop-i.invariant ∙ simp length-sets in
    omega arith

pub loop-i-preserved : goal.loop-i-preserved
loop-i-preserved c =
    let a = c.args in
    let to = a.at + c.loop-i.i * 8 in
    let stored = c.write_entry.ensures ∙ ap (λ (s : ℕ). sets c.loop-i.out to (entry_row (record { from = s; to = c.loop-i.i }))) (ap (λ r. r.start) c.from-start.ensures) in
    entries-turn a.out.now c.loop-i.out _ a.at to a.ranges.now c.loop-i.i c.row_at.result c.row_at.ensures (omega arith) c.loop-i.invariant stored

pub shape_of-out : goal.shape_of-out
shape_of-out c = ap length c.loop-i.invariant ∙ simp length-sets

pub returns : goal.returns
returns c =
    let e : c.loop-i.i ≡ c.args.count = omega arith in
    rw e at c.loop-i.invariant
