-- `fits` meets its contract: `all` over the octets beside their ranges.
use mathlib.Core.Path.{◌≡◌, refl, sym, ◌∙◌, ap}
use mathlib.Core.Bool.{Bool, false, ◌&&◌, and-false}
use mathlib.Core.List.{List, [], ◌∷◌, map}
use Prim.Native.Nat.{ℕ, ◌≤◌, ◌<◌}
use native.Mathlib.Omega.{arith}
use lib.Dec.{leb}
use lib.ListN.{length}
use borrow.Author.Tests.{lt-leb}
use borrow.Author.Rules.{rules}
use borrow.Author.Tests.{tests}
use Rattle.std.specs.List.{zip, list_all}
use Rattle.std.specs.Slice.Iter.{iter_rest}
use Rattle.std.proofs.lemmas.Iterator.{YieldsList-from_zip, YieldsList-from_slice}
use Rattle.std.proofs.lemmas.Iterator.Search.{all_from_yields_List}
use Rattle.text.specs.Utf8.{Range, ◌to◌, within, fits}
use Rattle.text.proofs.utf8.fits.Goals as goal

abbrev range : ℕ × ℕ → Range
range r = r.0 to r.1

abbrev inside : ℕ × (ℕ × ℕ) → Bool
inside p = leb p.1.0 p.0 && leb p.0 p.1.1

zipped : (s : List ℕ) (rs : List (ℕ × ℕ)) → length rs ≤ length s → list_all inside (zip s rs) ≡ fits (map range rs) s
unfolding fits within
zipped [] [] h = refl
zipped (b ∷ s) [] h = refl
zipped [] (r ∷ rs) h = absurd (omega arith)
zipped (b ∷ s) (r ∷ rs) h = ap (λ x. (leb r.0 b && leb b r.1) && x) (zipped s rs (omega arith))

short : (s : List ℕ) (rs : List (ℕ × ℕ)) → length s < length rs → false ≡ fits (map range rs) s
unfolding fits
short s [] h = absurd (omega arith)
short [] (r ∷ rs) h = refl
short (b ∷ s) (r ∷ rs) h = rw (← short s rs (omega arith)) (sym (and-false (within (range r) b)))

pub returns-then-s : goal.returns-then-s
returns-then-s g c =
    all_from_yields_List {s = c.zip.result} inside c.all.new.self _ c.all.result c.all.ensures.ran (YieldsList-from_zip (YieldsList-from_slice {s = c.zip.result.a} c.args.s.now (ap iter_rest c.zip.ensures.first ∙ c.iter.ensures.rest)) (YieldsList-from_slice {s = c.zip.result.b} c.args.ranges (search rules))) (λ x b q k. search (rules, tests))
    ∙ zipped c.args.s.now c.args.ranges (omega arith)

pub returns-else-s : goal.returns-else-s
returns-else-s g c = lt-leb g.row.N (length c.args.s.now) c.if-s.false ∙ short c.args.s.now c.args.ranges (omega arith)
