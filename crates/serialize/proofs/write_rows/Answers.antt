use Rattle.std.proofs.Common.{◌≡◌, ◌∙◌, ◌+◌, ◌*◌, refl, sym, arith}
use Rattle.slices.specs.Bytes.{table_bytes}
use Rattle.tables.specs.Table.{rows_from}
use Rattle.serialize.proofs.Rows.{rows-turn}
use Rattle.serialize.proofs.write_rows.Goals as goal

pub loop-i-init : goal.loop-i-init
unfolding table_bytes rows_from
loop-i-init g c = λ bytes gives long. refl

pub loop-i-preserved : goal.loop-i-preserved
loop-i-preserved g c =
    let a = c.args in
    let size = c.SIZE.result in
    let to = a.at + c.loop-i.i * size in
    λ bytes gives long.
    rows-turn bytes size (λ r. long r ∙ sym c.SIZE.ensures) a.out.now c.loop-i.out _ a.at to a.table.now c.loop-i.i c.row_at.result c.row_at.ensures (omega arith)
    (c.loop-i.invariant bytes gives long)
    (rw (gives c.row_at.result c.of-row.result c.of-row.ensures) at c.write.ensures)

pub returns : goal.returns
returns g c =
    λ bytes gives long.
    let e : c.loop-i.i ≡ c.args.count = omega arith in
    rw e at c.loop-i.invariant bytes gives long
