-- Rows with depths that step down by one at most are the preorder of a forest: `under d`, by structural recursion on the list.
use mathlib.Core.Path.{◌≡◌, refl, sym, ap, ◌∙◌, subst}
use mathlib.Core.Bool.{cond}
use mathlib.Core.Logic.{◌⊎◌, inl, inr, ◌≢◌}
use mathlib.Core.List.{List, [], ◌∷◌, ◌++◌, append_assoc}
use Prim.Native.Nat.{ℕ, suc, ◌≤◌, ◌<◌}
use native.Mathlib.Omega.{arith}
use lib.Dec.{ltb, eqb}
use borrow.Author.Tests.{lt-ltb, le-ltb, eq-eqb, ne_eqb}
use Rattle.slices.proofs.Cases.{lt-or_ge, eq-or-ne}
use Rattle.model.specs.Basics.{◌∈◌, here, there, Deep}
use Rattle.model.proofs.Ideal.{Row, Forest, nil, row, preorder}

module _ {A : Type 0} where
  -- the first depth is at most d, and each other at most one more than that before it
  abbrev pub Steps : ℕ → List (Deep A) → Type 0
  Steps d [] = Unit {0}
  Steps d (r ∷ rs) = (r.depth ≤ d) × Steps (suc r.depth) rs

module _ {F : Type 0} where
  -- the rows at depth d, up to the first that is above, each with the rows below it; deeper rows in front are passed over
  unfoldable pub under : ℕ → List (Deep (Row F)) → Forest F
  under d [] = nil
  under d (r ∷ rs) = cond (ltb r.depth d) nil (cond (eqb r.depth d) (row r.item (under (suc d) rs) (under d rs)) (under d rs))

  -- from the first row on that is above d
  unfoldable after : ℕ → List (Deep (Row F)) → List (Deep (Row F))
  after d [] = []
  after d (r ∷ rs) = cond (ltb r.depth d) (r ∷ rs) (after d rs)

  module _ (d : ℕ) (r : Deep (Row F)) (rs : List (Deep (Row F))) where
    pub under-above : r.depth < d → under d (r ∷ rs) ≡ nil
    unfolding under
    under-above h = rw (lt-ltb r.depth d h)

    pub under_at : r.depth ≡ d → under d (r ∷ rs) ≡ row r.item (under (suc d) rs) (under d rs)
    unfolding under
    under_at h = rw (le-ltb r.depth d (omega arith), eq-eqb r.depth d h)

    pub under-below : d < r.depth → under d (r ∷ rs) ≡ under d rs
    unfolding under
    under-below h = rw (le-ltb r.depth d (omega arith), ne_eqb r.depth d (omega arith))

    after-above : r.depth < d → after d (r ∷ rs) ≡ r ∷ rs
    unfolding after
    after-above h = rw (lt-ltb r.depth d h)

    after-below : d ≤ r.depth → after d (r ∷ rs) ≡ after d rs
    unfolding after
    after-below h = rw (le-ltb r.depth d h)

  preorder-row : (d : ℕ) (r : Row F) (kids sibs : Forest F) (rest : List (Deep (Row F)))
      → preorder d (row r kids sibs) ++ rest ≡ record { depth = d; item = r } ∷ (preorder (suc d) kids ++ (preorder d sibs ++ rest))
  unfolding preorder
  preorder-row d r kids sibs rest = ap (λ (t : List (Deep (Row F))). record { depth = d; item = r } ∷ t) (append_assoc (preorder (suc d) kids) (preorder d sibs) rest)

  after-steps : (d : ℕ) (rs : List (Deep (Row F))) → Steps d rs → after (suc d) rs ≡ rs
  unfolding after
  after-steps d [] s = refl
  after-steps d (r ∷ rs) s = after-above (suc d) r rs (omega (arith, s.0))

  cut : (d e : ℕ) (rs : List (Deep (Row F))) → Steps e rs → preorder d (under d rs) ++ after d rs ≡ after (suc d) rs
  unfolding preorder under after
  cut d e [] s = refl
  cut d e (r ∷ rs) s = go (lt-or_ge r.depth d) (eq-or-ne r.depth d) (cut d _ rs s.1) (cut (suc d) _ rs s.1)
    where
      go : (r.depth < d) ⊎ (d ≤ r.depth) → (r.depth ≡ d) ⊎ (r.depth ≢ d) → preorder d (under d rs) ++ after d rs ≡ after (suc d) rs
          → preorder (suc d) (under (suc d) rs) ++ after (suc d) rs ≡ after (suc (suc d)) rs → preorder d (under d (r ∷ rs)) ++ after d (r ∷ rs) ≡ after (suc d) (r ∷ rs)
      go (inl h) z p q = rw (under-above d r rs h, after-above d r rs h, after-above (suc d) r rs (omega arith))
      go (inr h) (inl z) p q =
          rw (under_at d r rs z, after-below d r rs h, after-above (suc d) r rs (omega arith))
          (preorder-row d r.item (under (suc d) rs) (under d rs) (after d rs)
          ∙ ap (λ (t : List (Deep (Row F))). record { depth = d; item = r.item } ∷ t)
          (ap (λ (t : List (Deep (Row F))). preorder (suc d) (under (suc d) rs) ++ t) p ∙ q ∙ after-steps (suc d) rs (subst (λ (n : ℕ). Steps (suc n) rs) z s.1))
          ∙ ap (λ (n : ℕ). record { depth = n; item = r.item } ∷ rs) (sym z))
      go (inr h) (inr z) p q = rw (under-below d r rs (omega arith), after-below d r rs h, after-below (suc d) r rs (omega arith)) p

  after_none : (d : ℕ) (rs : List (Deep (Row F))) → ((r : Deep (Row F)) → r ∈ rs → d ≤ r.depth) → after d rs ≡ []
  unfolding after
  after_none d [] h = refl
  after_none d (r ∷ rs) h = after-below d r rs (h r here) ∙ after_none d rs (λ q i. h q (there i))

  -- the rows of a tree after its root
  pub rows_are : (rs : List (Deep (Row F))) → Steps 1 rs → ((r : Deep (Row F)) → r ∈ rs → 1 ≤ r.depth)
      → (root : Row F) → preorder 0 (row root (under 1 rs) nil) ≡ record { depth = 0; item = root } ∷ rs
  unfolding preorder
  rows_are rs s h root =
      ap (λ (t : List (Deep (Row F))). record { depth = 0; item = root } ∷ t)
      (ap (λ (t : List (Deep (Row F))). preorder 1 (under 1 rs) ++ t) (sym (after_none 1 rs h)) ∙ cut 1 1 rs s ∙ after-steps 1 rs s)
