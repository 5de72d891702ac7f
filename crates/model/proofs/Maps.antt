-- The ranges map: what each insertion changes, what it keeps, and what a lookup sees.
use mathlib.Core.Path.{◌≡◌, refl, sym, ap, ◌∙◌, subst}
use mathlib.Core.Option.{Option, none, some}
use mathlib.Core.Logic.{◌⊎◌, inl, inr, ◌≢◌, ⊎_elim}
use mathlib.Core.List.{List, [], ◌∷◌, ◌++◌}
use Prim.Native.Nat.{ℕ, zero, suc, ◌≤◌, ◌<◌}
use native.Mathlib.Omega.{arith}
use borrow.Author.Tests.{eq-eqb, ne_eqb}
use Rattle.slices.proofs.Cases.{eq-or-ne}
use Rattle.model.proofs.Ideal.{Map, insert, insert_soft, insert-end, look}

module _ {F : Type 0} where
  -- a value with a frame in it is kept
  abbrev pub Keeps : Option (List F) → Option (List F) → Type 0
  Keeps o o' = (f : F) (w : List F) → o ≡ some (f ∷ w) → o' ≡ some (f ∷ w)

  pub insert-same : (a : ℕ) (v : List F) (m : Map F) → insert a v m a ≡ some v
  unfolding insert
  insert-same a v m = rw (eq-eqb a a refl)

  pub insert-other : (a : ℕ) (v : List F) (m : Map F) (k : ℕ) → k ≢ a → insert a v m k ≡ m k
  unfolding insert
  insert-other a v m k h = rw (ne_eqb k a h)

  pub soft_other : (a : ℕ) (v : List F) (m : Map F) (k : ℕ) → k ≢ a → insert_soft a v m k ≡ m k
  unfolding insert_soft
  soft_other a v m k h = go (m a) refl
    where
      go : (o : Option (List F)) → m a ≡ o → insert_soft a v m k ≡ m k
      go none e = rw (e, insert_soft) (insert-other a v m k h)
      go (some []) e = rw (e, insert_soft) (insert-other a v m k h)
      go (some (f ∷ w)) e = rw (e, insert_soft)

  pub soft_keeps : (a : ℕ) (v : List F) (m : Map F) (k : ℕ) → Keeps (m k) (insert_soft a v m k)
  unfolding insert_soft
  soft_keeps a v m k f w h = go (eq-or-ne k a)
    where
      go : (k ≡ a) ⊎ (k ≢ a) → insert_soft a v m k ≡ some (f ∷ w)
      go (inl e) = let e' : m a ≡ some (f ∷ w) = cc in rw (e', insert_soft) h
      go (inr n) = soft_other a v m k n ∙ h

  pub end-other : (a : ℕ) (m : Map F) (k : ℕ) → k ≢ a → insert-end a m k ≡ m k
  unfolding insert-end
  end-other a m k h = go (m a) refl
    where
      go : (o : Option (List F)) → m a ≡ o → insert-end a m k ≡ m k
      go none e = rw (e, insert-end) (insert-other a [] m k h)
      go (some v) e = rw (e, insert-end)

  pub end_keeps : (a : ℕ) (m : Map F) (k : ℕ) → Keeps (m k) (insert-end a m k)
  unfolding insert-end
  end_keeps a m k f w h = go (eq-or-ne k a)
    where
      go : (k ≡ a) ⊎ (k ≢ a) → insert-end a m k ≡ some (f ∷ w)
      go (inl e) = let e' : m a ≡ some (f ∷ w) = cc in rw (e', insert-end) h
      go (inr n) = end-other a m k n ∙ h

  -- ── The same frames ──

  -- where one has frames the other has the same
  abbrev pub SameFrames : Option (List F) → Option (List F) → Type 0
  SameFrames o o' = Keeps o o' × Keeps o' o

  pub same-frames : {o o' : Option (List F)} → o ≡ o' → SameFrames o o'
  same-frames e = (λ f w h. sym e ∙ h, λ f w h. e ∙ h)

  pub frames-then : {o o' o'' : Option (List F)} → SameFrames o o' → SameFrames o' o'' → SameFrames o o''
  frames-then a b = (λ f w h. b.0 f w (a.0 f w h), λ f w h. a.1 f w (b.1 f w h))

  -- an end brings none
  pub end-frames : (a : ℕ) (m : Map F) (k : ℕ) → SameFrames (m k) (insert-end a m k)
  unfolding insert-end
  end-frames a m k = (end_keeps a m k, λ f w h. ⊎_elim (λ e. at f w h e (m a) refl) (λ n. sym (end-other a m k n) ∙ h) (eq-or-ne k a))
    where
      at : (f : F) (w : List F) → insert-end a m k ≡ some (f ∷ w) → k ≡ a → (o : Option (List F)) → m a ≡ o → m k ≡ some (f ∷ w)
      at f w h e none z =
          let p : insert-end a m a ≡ some [] = rw (z, insert-end) (insert-same a [] m) in
          let q : insert-end a m a ≡ some (f ∷ w) = subst (λ (j : ℕ). insert-end a m j ≡ some (f ∷ w)) e h in
          let bad : ◌≡◌ {A = ℕ} 0 1 = cc in absurd (omega arith)
      at f w h e (some v) z = let p : insert-end a m k ≡ m k = rw (z, insert-end) in sym p ∙ h

  -- ── What is seen ──

  -- the greatest key that is at most x is at least s, and holds v
  pub record Sees (m : Map F) (s x : ℕ) (v : List F) : Type 0 where
    pub key : ℕ
    pub low : s ≤ key
    pub high : key ≤ x
    pub held : m key ≡ some v
    pub bare : (j : ℕ) → key < j → j ≤ x → m j ≡ none

  pub look_down : (m : Map F) (key : ℕ) (v : List F) → m key ≡ some v → (y : ℕ) → key ≤ y → ((j : ℕ) → key < j → j ≤ y → m j ≡ none) → look m y ≡ v
  unfolding look
  look_down m key v held zero h b = let e : m 0 ≡ some v = subst (λ (k : ℕ). m k ≡ some v) (omega arith) held in rw (e, look)
  look_down m key v held (suc y) h b = ⊎_elim at (under (look_down m key v held y)) (eq-or-ne key (suc y))
    where
      at : key ≡ suc y → look m (suc y) ≡ v
      at e = let e' : m (suc y) ≡ some v = subst (λ (k : ℕ). m k ≡ some v) e held in rw (e', look)

      under : (key ≤ y → ((j : ℕ) → key < j → j ≤ y → m j ≡ none) → look m y ≡ v) → key ≢ suc y → look m (suc y) ≡ v
      under ih n = rw (b (suc y) (omega arith) (omega arith), look) (ih (omega arith) (λ j h₁ h₂. b j h₁ (omega arith)))

  pub sees_look : {m : Map F} {s x : ℕ} {v : List F} → Sees m s x v → look m x ≡ v
  sees_look {m} {s} {x} {v} q = look_down m q.key v q.held x q.high q.bare

  -- a value with a frame in it
  abbrev pub Solid : List F → Type 0
  Solid v = (f : F) × (w : List F) × (v ≡ f ∷ w)

  pub solid_mid : (u : List F) (f : F) (w : List F) → Solid (u ++ (f ∷ w))
  solid_mid [] f w = (f, w, refl)
  solid_mid (g ∷ u) f w = (g, u ++ (f ∷ w), refl)

  -- what is seen stays seen where the keys after s stay, and s keeps a value with a frame in it
  pub sees_keep : {m m' : Map F} {s x : ℕ} {v : List F} → Solid v → Sees m s x v
      → ((k : ℕ) → s < k → k ≤ x → m' k ≡ m k) → Keeps (m s) (m' s) → Sees m' s x v
  sees_keep {m} {m'} {s} {x} {v} sol q h k = record {
    key = q.key;
    low = q.low;
    high = q.high;
    held = go (eq-or-ne s q.key);
    bare = λ j h₁ h₂. h j (omega (arith, q.low)) h₂ ∙ q.bare j h₁ h₂;
  }
    where
      go : (s ≡ q.key) ⊎ (s ≢ q.key) → m' q.key ≡ some v
      go (inl e) =
          let z : m s ≡ some v = subst (λ (j : ℕ). m j ≡ some v) (sym e) q.held in
          subst (λ (j : ℕ). m' j ≡ some v) e (k sol.0 sol.1 (z ∙ ap some sol.2) ∙ ap some (sym sol.2))
      go (inr n) = h q.key (omega (arith, q.low)) q.high ∙ q.held

  pub sees_lower : {m : Map F} {s t x : ℕ} {v : List F} → t ≤ s → Sees m s x v → Sees m t x v
  sees_lower h q = record { key = q.key; low = omega (arith, q.low); high = q.high; held = q.held; bare = q.bare }
