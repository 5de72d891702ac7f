-- Chains over any rows: a walk along a chain finds the newest row that is hit. Nothing here knows what a row is.
use Prim.Native.Nat.{ℕ, zero, suc, ◌<◌, ◌≤◌, zero-le}
use mathlib.Core.Path.{◌≡◌, refl, sym, ◌∙◌}
use mathlib.Core.Bool.{Bool, true, false, cond}
use mathlib.Core.Logic.{◌⊎◌, inl, inr}
use native.Mathlib.Omega.{arith}
use lib.Dec.{eqb}
use borrow.Author.Tests.{eq-eqb, ne_eqb, eqb-true, eqb-false}
use Rattle.tables.specs.Table.{walk}
use Rattle.table_laws.specs.Plain.{last_with}
use Rattle.tables.proofs.Walk.{walk_pass, walk_at}

-- the newest row below n that is hit; d where there is none
unfoldable pub last_hit : (ℕ → Bool) → ℕ → ℕ → ℕ
last_hit hit d zero = d
last_hit hit d (suc i) = cond (hit i) i (last_hit hit d i)

module _ (bucket : ℕ → ℕ) (h : ℕ) where
  pub last-le : (i : ℕ) → last_with bucket h i ≤ i
  unfolding last_with
  last-le zero = zero-le
  last-le (suc i) = go (eqb (bucket i) h) (last-le i)
    where
      go : (x : Bool) → last_with bucket h i ≤ i → cond x (suc i) (last_with bucket h i) ≤ suc i
      go true p = omega arith
      go false p = omega arith

  pub last-hit : (i : ℕ) → bucket i ≡ h → last_with bucket h (suc i) ≡ suc i
  unfolding last_with
  last-hit i e = rw (eq-eqb (bucket i) h e)

  pub last-miss : (i : ℕ) → (bucket i ≡ h → ⊥) → last_with bucket h (suc i) ≡ last_with bucket h i
  unfolding last_with
  last-miss i e = rw (ne_eqb (bucket i) h e)

  pub last-kept : (other : ℕ → ℕ) (i : ℕ) → ((j : ℕ) → j < i → other j ≡ bucket j) → last_with other h i ≡ last_with bucket h i
  unfolding last_with
  last-kept other zero e = refl
  last-kept other (suc i) e = rw (e i (omega arith), last-kept other i (λ j p. e j (omega arith)))

module _ (link bucket : ℕ → ℕ) (hit : ℕ → Bool) (h d : ℕ) (into : (i : ℕ) → hit i ≡ true → bucket i ≡ h) where
  hit-miss : (i : ℕ) → (bucket i ≡ h → ⊥) → last_hit hit d (suc i) ≡ last_hit hit d i
  unfolding last_hit
  hit-miss i n = go (hit i) refl
    where
      go : (x : Bool) → hit i ≡ x → cond x i (last_hit hit d i) ≡ last_hit hit d i
      go true e = absurd (n (into i e))
      go false e = refl

  pub walk-last : (n : ℕ) → ((i : ℕ) → i < n → link i ≡ last_with bucket (bucket i) i) → walk link hit d n (last_with bucket h n) ≡ last_hit hit d n
  unfolding last_hit
  walk-last zero l = unfold walk in refl
  walk-last (suc i) l = go (eqb (bucket i) h) refl (walk-last i (λ j p. l j (omega arith)))
    where
      go : (x : Bool) → eqb (bucket i) h ≡ x → walk link hit d i (last_with bucket h i) ≡ last_hit hit d i → walk link hit d (suc i) (last_with bucket h (suc i)) ≡ last_hit hit d (suc i)
      go true e ih =
          let b : bucket i ≡ h = eqb-true _ _ e in
          rw (last-hit bucket h i b, walk_at link hit d i, l i (omega arith), b, ih)
      go false e ih =
          let b : bucket i ≡ h → ⊥ = eqb-false _ _ e in
          rw (last-miss bucket h i b)
          (walk_pass link hit d i (last_with bucket h i) (let p = last-le bucket h i in omega arith) ∙ ih ∙ sym (hit-miss i b))

-- what the newest row hit is: one below n, or none
abbrev pub Miss : (ℕ → Bool) → ℕ → Type 0
Miss hit n = (k : ℕ) → k < n → hit k ≡ false

pub last-is : (hit : ℕ → Bool) (d n : ℕ) → ((last_hit hit d n < n) × (hit (last_hit hit d n) ≡ true)) ⊎ ((last_hit hit d n ≡ d) × Miss hit n)
unfolding last_hit
last-is hit d zero = inr (refl, λ k p. absurd (omega arith))
last-is hit d (suc i) = go (hit i) refl (last-is hit d i)
  where
    below : (k : ℕ) → k < suc i → hit i ≡ false → Miss hit i → hit k ≡ false
    below k p e m = at (eqb k i) refl
      where
        at : (x : Bool) → eqb k i ≡ x → hit k ≡ false
        at true f = rw (eqb-true k i f) e
        at false f = m k (let g = eqb-false k i f in omega arith)

    go : (x : Bool) → hit i ≡ x → ((last_hit hit d i < i) × (hit (last_hit hit d i) ≡ true)) ⊎ ((last_hit hit d i ≡ d) × Miss hit i) → ((last_hit hit d (suc i) < suc i) × (hit (last_hit hit d (suc i)) ≡ true)) ⊎ ((last_hit hit d (suc i) ≡ d) × Miss hit (suc i))
    go true e s = inl (rw e (omega arith, e))
    go false e (inl s) = inl (rw e (let p = s.0 in omega arith, s.1))
    go false e (inr s) = inr (rw e s.0, λ k p. below k p e s.1)
