use Prim.Native.Nat.{ℕ, ◌*◌, ◌/◌, ◌%◌}
use mathlib.Core.Path.{◌≡◌, refl}
use mathlib.Core.List.{List}
use lib.ListN.{length, drop}
use borrow.Author.Rules.{rules}
use Rattle.std.specs.List.{fold}
use Rattle.std.specs.Simd.{first_chunks}
use Rattle.std.proofs.lemmas.Iterator.{YieldsList-from_slice}
use Rattle.std.proofs.lemmas.Iterator.Consumers.{fold_from_yields_List}
use Rattle.strings.specs.Strings.{mixed, text_hash}
use Rattle.strings.proofs.Fours.{mixed_four, folded}
use Rattle.strings.proofs.hash.Goals as goal

law : (t : List ℕ) {x y : ℕ} {fours : List (List ℕ)} {rest : List ℕ} → fours ≡ first_chunks 4 (length t / 4) t → rest ≡ drop (length t / 4 * 4) t
    → x ≡ fold mixed_four (length t) fours → y ≡ fold mixed x rest → y % 4294967291 ≡ text_hash t
unfolding text_hash
law t e f g h = rw (folded t (length t) (length t / 4) refl, ← e, ← f, ← g, ← h)

pub returns : goal.returns
returns c =
    law c.args.t.now c.as_chunks.ensures.front c.as_chunks.ensures.back
    (fold_from_yields_List _ mixed_four (length c.args.t.now) c.fold-x.result c.fold-x.ensures.ran (YieldsList-from_slice {s = c.iter.result} _ c.iter.ensures.rest) (λ a x b q k. search rules))
    (fold_from_yields_List _ mixed c.fold-x.result c.fold-x-2.result c.fold-x-2.ensures.ran (YieldsList-from_slice {s = c.iter-2.result} _ c.iter-2.ensures.rest) (λ a x b q k. search rules))
