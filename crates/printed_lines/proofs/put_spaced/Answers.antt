use Prim.Native.Nat.{ℕ, ◌+◌}
use mathlib.Core.Path.{◌≡◌, ◌∙◌}
use mathlib.Core.List.{List}
use native.Mathlib.Numerals.{add-one}
use native.Mathlib.Omega.{arith}
use lib.ListN.{set, length-set}
use lib.Seq.{sets}
use Rattle.printed_lines.specs.Printed.{hex_field, spaced}
use Rattle.printed_lines.proofs.put_spaced.Goals as goal

spaced-law : (s : List ℕ) (at v : ℕ) {s' : List ℕ} → s' ≡ sets (set s at 32) (at + 1) (hex_field 8 v) → s' ≡ sets s at (spaced v)
unfolding spaced
spaced-law s at v e = rw (add-one at) at e

pub put_hex-requires : goal.put_hex-requires
put_hex-requires c = simp length-set (omega arith)

pub shape_of-out : goal.shape_of-out
shape_of-out c = c.put_hex.auto.out ∙ simp length-set

pub returns : goal.returns
returns c =
    let a = c.args in
    spaced-law a.out.now a.at a.value (rw c.from.ensures at c.put_hex.ensures)
