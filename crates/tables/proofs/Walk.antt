-- Laws of `walk`: where it ends, and what one turn of the loop does.
use Prim.Native.Nat.{ℕ, zero, suc, ◌-◌, ◌<◌, ◌≤◌}
use mathlib.Core.Path.{◌≡◌, refl, sym, ap, ◌∙◌}
use mathlib.Core.List.{List}
use mathlib.Core.Bool.{Bool, true, false, cond}
use native.Mathlib.Omega.{arith}
use lib.Dec.{eqb}
use borrow.Author.Tests.{eq-eqb, ne_eqb, eqb-true, eqb-false}
use lib.ListN.{length}
use Rattle.tables.specs.Table.{walk, capacity_of, row_at, link_at, head_at, bucket_of, key_of, same_row, hash_of, hit_at, newest_of, lookup_of}
use Rattle.tables.specs.declared.Row.{Row}

le_step : {l i : ℕ} → (l ≡ suc i → ⊥) → l ≤ suc i → l ≤ i
le_step n h = omega arith

pub back : (i : ℕ) → suc i - 1 ≡ i
back i = omega arith

module _ (link : ℕ → ℕ) (hit : ℕ → Bool) (d : ℕ) where
  -- a row that the link does not name is passed
  pub walk_pass : (i l : ℕ) → (l ≡ suc i → ⊥) → walk link hit d (suc i) l ≡ walk link hit d i l
  unfolding walk
  walk_pass i l h = simp (ne_eqb l (suc i) h)

  pub walk-zero : (b : ℕ) → walk link hit d b 0 ≡ d
  walk-zero zero = unfold walk in refl
  walk-zero (suc i) = walk_pass i 0 (λ e. omega arith) ∙ walk-zero i

  pub walk_none : (b l : ℕ) → l ≤ 0 → walk link hit d b l ≡ d
  walk_none b l h = let e : l ≡ 0 = omega arith in rw (e, walk-zero b)

  pub walk-high : (b l : ℕ) → b < l → walk link hit d b l ≡ d
  walk-high zero l h = unfold walk in refl
  walk-high (suc i) l h = walk_pass i l (λ e. omega arith) ∙ walk-high i l (omega arith)

  pub walk_down : (b l : ℕ) → l ≤ b → walk link hit d b l ≡ walk link hit d l l
  walk_down zero l h = let e : l ≡ 0 = omega arith in rw e
  walk_down (suc i) l h = go (eqb l (suc i)) refl (λ k. walk_down i l k)
    where
      go : (x : Bool) → eqb l (suc i) ≡ x → (l ≤ i → walk link hit d i l ≡ walk link hit d l l) → walk link hit d (suc i) l ≡ walk link hit d l l
      go true e ih = rw (eqb-true l (suc i) e)
      go false e ih = walk_pass i l (eqb-false l (suc i) e) ∙ ih (le_step (eqb-false l (suc i) e) h)

  -- the answer is a row's number below the bound, or d
  pub walk_most : (b l : ℕ) → b ≤ d → walk link hit d b l ≤ d
  unfolding walk
  walk_most zero l h = let p : d ≤ d = omega arith in p
  walk_most (suc i) l h = go (eqb l (suc i)) (hit i) (walk_most i (link i) (omega arith)) (walk_most i l (omega arith))
    where
      go : (x y : Bool) → walk link hit d i (link i) ≤ d → walk link hit d i l ≤ d → cond x (cond y i (walk link hit d i (link i))) (walk link hit d i l) ≤ d
      go true true p q = omega arith
      go true false p q = p
      go false y p q = q

  pub walk_at : (i : ℕ) → walk link hit d (suc i) (suc i) ≡ cond (hit i) i (walk link hit d i (link i))
  unfolding walk
  walk_at i = simp (eq-eqb (suc i) (suc i) refl)

  -- the loop's turn at link l: row l - 1 is hit, or not
  pub walk-found : (b l : ℕ) {x : ℕ} → x ≡ walk link hit d b l → 0 < l → l ≤ b → {s : Bool} → s ≡ hit (l - 1) → s ≡ true → l - 1 ≡ x
  walk-found b zero inv p h e f = absurd (omega arith)
  walk-found b (suc i) inv p h e f =
      let e' : hit i ≡ true = rw back at (sym e ∙ f) in
      sym (inv ∙ rw (walk_down b (suc i) h, walk_at i, e', back i))

  pub walk-next : (b l : ℕ) {x : ℕ} → x ≡ walk link hit d b l → 0 < l → l ≤ b → {s : Bool} → s ≡ hit (l - 1) → s ≡ false → {k : ℕ} → k ≡ link (l - 1) → x ≡ walk link hit d (l - 1) k
  walk-next b zero inv p h e f g = absurd (omega arith)
  walk-next b (suc i) inv p h e f g =
      let e' : hit i ≡ false = rw back at (sym e ∙ f) in
      rw g (inv ∙ rw (walk_down b (suc i) h, walk_at i, e', back i))

pub lookup_most : (w : ℕ) (t : List ℕ) (n : ℕ) (q : Row) → lookup_of w t n q ≤ n
unfolding lookup_of
lookup_most w t n q = walk_most (link_at t) (hit_at t w (key_of w q)) n n (newest_of w t q) (let p : n ≤ n = omega arith in p)

-- a row is looked for by what of it is compared, and by nothing else of a width
abbrev looked : (Row → Row) → List ℕ → ℕ → Row → ℕ
looked f t n q = walk (link_at t) (λ i. same_row (f (row_at t i)) (f q)) n n (head_at (capacity_of (length t)) t (bucket_of (hash_of (f q)) (capacity_of (length t))))

looked-is : (w : ℕ) (t : List ℕ) (n : ℕ) (q : Row) → lookup_of w t n q ≡ looked (key_of w) t n q
unfolding lookup_of hit_at newest_of
looked-is w t n q = refl

pub lookup_same : (w v : ℕ) → key_of w ≡ key_of v → (t : List ℕ) (n : ℕ) (q : Row) → lookup_of w t n q ≡ lookup_of v t n q
lookup_same w v e t n q = looked-is w t n q ∙ ap (λ (f : Row → Row). looked f t n q) e ∙ sym (looked-is v t n q)
