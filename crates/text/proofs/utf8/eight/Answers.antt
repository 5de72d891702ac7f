-- `eight` meets its contract: its fold is over the first eight octets.
use mathlib.Core.Path.{◌∙◌, ap}
use mathlib.Core.List.{List}
use Prim.Native.Nat.{ℕ}
use lib.Bits.{bit_or}
use lib.Dec.{ltb}
use borrow.Author.Rules.{rules}
use Rattle.std.specs.List.{fold}
use Rattle.std.proofs.lemmas.Iterator.{YieldsList-from_slice}
use Rattle.std.proofs.lemmas.Iterator.Consumers.{fold_from_yields_List}
use Rattle.text.proofs.Utf8Eights.{eight_low, too_short}
use Rattle.text.proofs.utf8.eight.Goals as goal

pub returns-in-Some : goal.returns-in-Some
returns-in-Some c =
    let e = fold_from_yields_List _ bit_or 0 c.fold.result c.fold.ensures.ran (YieldsList-from_slice {s = c.iter.result} c.in-Some.octets.now c.iter.ensures.rest) (λ a x b q k. search rules) in
    let k = c.in-Some.ensures.cases in
    ap (λ n. ltb n 128) (e ∙ ap (λ (x : List ℕ). fold bit_or 0 x) k.same) ∙ eight_low c.args.s.now k.enough

pub returns-in-None : goal.returns-in-None
returns-in-None c = too_short c.args.s.now c.in-None.ensures.cases
