use Prim.Native.Nat.{ℕ, ◌*◌}
use mathlib.Core.Path.{◌≡◌, refl, sym, ◌∙◌}
use mathlib.Core.List.{List}
use mathlib.Core.Bool.{Bool, true, false, cond}
use lib.Dec.{eqb}
use lib.ListN.{get_or}
use borrow.Author.Tests.{ne_eqb}
use Rattle.tables.specs.Table.{width_of, hit_at, row_at, key_of, same_row}
use Rattle.tables.specs.declared.Row.{Row}
use Rattle.tables.proofs.Rows.{equal_same}
use Rattle.tables.proofs.KeyedProbe.hits.Goals as goal

hit-law : (t : List ℕ) (w : ℕ) (k : Row) (i : ℕ) {r x : Row} {s : Bool} → r ≡ row_at t i → x ≡ key_of w r → s ≡ same_row x k → s ≡ hit_at t w k i
unfolding hit_at
hit-law t w k i e f g = rw (← e, ← f) g

key-first : (w : ℕ) (r : Row) → (key_of w r).a ≡ r.a
unfolding key_of
key-first w r = go (eqb w 1)
  where
    go : (b : Bool) → (cond b (record { a = r.a; b = 0; c = 0; d = 0; e = 0; f = 0 }) r).a ≡ r.a
    go true = refl
    go false = refl

same_not : (x y : Row) → (x.a ≡ y.a → ⊥) → same_row x y ≡ false
unfolding same_row
same_not x y n = rw (ne_eqb x.a y.a n)

row_first : (t : List ℕ) (i : ℕ) → (row_at t i).a ≡ get_or t (i * 7) 0
unfolding row_at
row_first t i = refl

miss-law : (t : List ℕ) (w : ℕ) (k : Row) (i : ℕ) {a : ℕ} → a ≡ get_or t (i * 7) 0 → (a ≡ k.a → ⊥) → false ≡ hit_at t w k i
unfolding hit_at
miss-law t w k i e n = sym (same_not (key_of w (row_at t i)) k (rw (key-first w (row_at t i), row_first t i, ← e) n))

pub returns-then-word-self : goal.returns-then-word-self
returns-then-word-self c = let a = c.args in hit-law a.t.now (width_of a.self.now.key) a.self.now.words a.i c.row_at.ensures c.of.ensures (c.eq.ensures ∙ equal_same c.of.result a.self.now.words)

pub returns-else-word-self : goal.returns-else-word-self
returns-else-word-self c =
    let a = c.args in
    ne_eqb c.word.result a.self.now.words.a c.if-word-self.false ∙ miss-law a.t.now (width_of a.self.now.key) a.self.now.words a.i c.word.ensures c.if-word-self.false
