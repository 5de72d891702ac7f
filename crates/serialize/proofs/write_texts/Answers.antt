-- `write_texts` meets its contract: the first n bytes are copied.
use mathlib.Core.Path.{sym}
use native.Mathlib.Omega.{arith}
use lib.Seq.{length-take-le}
use Rattle.serialize.proofs.write_texts.Goals as goal

pub slice_bounds-copy-end : goal.slice_bounds-copy-end
slice_bounds-copy-end c = let a = c.args in sym (length-take-le a.n a.texts.now (omega arith))
