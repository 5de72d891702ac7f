use Rattle.std.proofs.Common.{refl, arith, length-set}
use Rattle.std.proofs.lemmas.List.{length-replicate}
use Rattle.slices.specs.Bytes.{bytes_at}
use Rattle.slices.proofs.Bytes.{copy_turn, copied}
use Rattle.raw.proofs.bytes.Goals as goal

pub loop-i-init : goal.loop-i-init
unfolding bytes_at
loop-i-init g c = (length-replicate _ _, refl)

pub loop-i-preserved : goal.loop-i-preserved
loop-i-preserved g c =
    let a = c.args in
    let i = c.loop-i.i in
    (simp length-set c.loop-i.invariant.0, rw c.byte_at.ensures (copy_turn a.s.now a.at i c.loop-i.b-items (omega arith) c.loop-i.invariant.1))

pub returns : goal.returns
returns g c = let a = c.args in copied g.row.N a.s.now a.at c.loop-i.i c.loop-i.b-items (omega arith) c.loop-i.invariant.0 c.loop-i.invariant.1
