use Prim.Native.Nat.{ℕ}
use mathlib.Core.Path.{◌≡◌}
use borrow.Author.Tests.{ne_eqb}
use Rattle.tables.specs.Table.{key_of}
use Rattle.tables.specs.declared.Row.{Row}
use Rattle.tables.proofs.keys.Key.by.Goals as goal

-- at any width but 1 all of a row is compared
whole : (w : ℕ) → (w ≡ 1 → ⊥) → (q : Row) → key_of 6 q ≡ key_of w q
unfolding key_of
whole w n q = rw (ne_eqb w 1 n)

pub returns-else-width-eq-FIRST : goal.returns-else-width-eq-FIRST
returns-else-width-eq-FIRST c = λ j q. whole c.args.width c.if-width-eq-FIRST.false q j
