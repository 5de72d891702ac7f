use Prim.Native.Nat.{ℕ}
use mathlib.Core.Path.{◌≡◌, refl, ap}
use mathlib.Core.Bool.{false}
use lib.Dec.{eqb}
use borrow.Author.Tests.{ne_eqb}
use Rattle.tables.specs.Table.{width_of, key_of, hash_of}
use Rattle.tables.specs.declared.Row.{Row}
use Rattle.tables.specs.declared.keys.Key.{Key}
use Rattle.tables.specs.declared.keys.Key.TheVariants.{First, Whole}
use Rattle.journal.specs.Undo.{row_hash_of}
use Rattle.journal.proofs.undo.By.of.Goals as goal

four-not : (k : Key) → eqb (width_of k) 4 ≡ false
four-not First = refl
four-not Whole = refl

-- at any width but 4 a row's hash is that of its key
keyed : (k : Key) (w : ℕ) → (w ≡ 4 → ⊥) → key_of (width_of k) ≡ key_of w → (r : Row) → row_hash_of (width_of k) r ≡ row_hash_of w r
unfolding row_hash_of
keyed k w n e r = rw (four-not k, ne_eqb w 4 n) (ap (λ (f : Row → Row). hash_of (f r)) e)

pub returns-else-width-eq-TEXT : goal.returns-else-width-eq-TEXT
returns-else-width-eq-TEXT c = λ j r. keyed c.by.result c.args.width c.if-width-eq-TEXT.false c.by.ensures r j
