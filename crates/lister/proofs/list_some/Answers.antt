-- The library stays inside what it is lent.
use Prim.Native.Nat.{◌-◌}
use mathlib.Core.Path.{sym}
use native.Mathlib.Omega.{arith}
use lib.ListN.{length}
use lib.Seq.{length-take-le}
use Rattle.listing.proofs.Inside.{inside, further}
use Rattle.lister.proofs.list_some.Goals as goal

pub slice_bounds-out-end : goal.slice_bounds-out-end
slice_bounds-out-end g c = (inside _ _ _ _ c.list-listed.ensures).written

pub slice_bounds-send-end : goal.slice_bounds-send-end
slice_bounds-send-end g c = sym (length-take-le c.list-listed.result.written c.list-listed.new.out (inside _ _ _ _ c.list-listed.ensures).written)

-- the place after the call
pub overflow_add-result : goal.overflow_add-result
overflow_add-result g c =
    let a = c.args in
    omega (arith, further a.piece.now a.from (length a.piece.now - a.from) c.list-listed.result.used c.requires (inside _ _ _ _ c.list-listed.ensures).used)

pub returns : goal.returns
returns g c =
    let a = c.args in
    further a.piece.now a.from (length a.piece.now - a.from) c.list-listed.result.used c.requires (inside _ _ _ _ c.list-listed.ensures).used
