-- Extents, of the ideal converter. Frames come only to keys in the extent of an operation (`run_brings`). And a symbol's frame is seen at every address of its extent (`symbol-seen`), if the operations
-- before it (`op_fresh`) and after it (`run-beside`) keep beside it.
use mathlib.Core.Path.{◌≡◌, refl, sym, ◌∙◌}
use mathlib.Core.Option.{Option, none, some}
use mathlib.Core.Logic.{◌⊎◌, inl, inr, ⊎_elim}
use mathlib.Core.List.{List, [], ◌∷◌}
use Prim.Native.Nat.{ℕ, ◌≤◌, ◌<◌}
use native.Mathlib.Omega.{arith}
use Rattle.slices.proofs.Cases.{lt-or_ge, eq-or-ne}
use Rattle.model.specs.Basics.{◌∈◌, here, there}
use Rattle.model.proofs.Ideal.{Row, Op, tree, symbol, idle, Map, insert_soft, convert-symbol, convert-op, run, Well, Clear}
use Rattle.model.proofs.Maps.{insert-same, soft_other, end-other, end_keeps, end-frames, Sees}
use Rattle.model.proofs.Trees.{root-out}
use Rattle.model.proofs.Theorem.{op-off, run-keep}

module _ {F : Type 0} where
  -- ── Where frames come from ──

  -- o may bring frames to the key k
  abbrev pub Brings : Op F → ℕ → Type 0
  Brings (tree r kids) k = (r.entry ≤ k) × (k < r.stop)
  Brings (symbol a e f) k = k ≡ a
  Brings idle k = ⊥

  op_brings : (o : Op F) (m : Map F) → Well o → (k : ℕ) (f : F) (w : List F) → convert-op o m k ≡ some (f ∷ w) → (m k ≡ some (f ∷ w)) ⊎ Brings o k
  unfolding convert-op convert-symbol
  op_brings (tree r kids) m well k f w e =
      ⊎_elim
      (λ h. inl ((root-out r kids m well k (inl h)).1 f w e))
      (λ h. ⊎_elim (λ g. inr (h, g)) (λ g. inl ((root-out r kids m well k (inr g)).1 f w e)) (lt-or_ge k r.stop))
      (lt-or_ge k r.entry)
  op_brings (symbol a none g) m well k f w e = ⊎_elim (λ h. inr h) (λ n. inl (sym (soft_other a (g ∷ []) m k n) ∙ e)) (eq-or-ne k a)
  op_brings (symbol a (some d) g) m well k f w e = ⊎_elim (λ h. inr h) (λ n. inl (sym (soft_other a (g ∷ []) m k n) ∙ (end-frames d _ k).1 f w e)) (eq-or-ne k a)
  op_brings idle m well k f w e = inl e

  pub run_brings : (os : List (Op F)) (m : Map F) → ((o : Op F) → o ∈ os → Well o) → (k : ℕ) (f : F) (w : List F) → run os m k ≡ some (f ∷ w)
      → (m k ≡ some (f ∷ w)) ⊎ ((o : Op F) × (o ∈ os) × Brings o k)
  unfolding run
  run_brings [] m wells k f w e = inl e
  run_brings (o ∷ os) m wells k f w e =
      ⊎_elim
      (λ h. ⊎_elim (λ y. inl y) (λ b. inr (o, here, b)) (op_brings o m (wells o here) k f w h))
      (λ (p, i, b). inr (p, there i, b))
      (run_brings os (convert-op o m) (λ p i. wells p (there i)) k f w e)

  -- ── A symbol from a to e, with the frame f, and an address x in it ──

  module _ (a e : ℕ) (f : F) (x : ℕ) (cov : (a ≤ x) × (x < e)) where
    -- an operation keeps beside the symbol: it ends before it, or starts after it
    abbrev pub Beside : Op F → Type 0
    Beside (tree r kids) = (r.stop ≤ a) ⊎ (e ≤ r.entry)
    Beside (symbol b none g) = ⊥
    Beside (symbol b (some d) g) = (b < d) × ((d ≤ a) ⊎ (e ≤ b))
    Beside idle = Unit {0}

    brings_none : (o : Op F) → Beside o → Brings o a → ⊥
    brings_none (tree r kids) h b = ⊎_elim (λ z. omega (arith, b)) (λ z. omega (arith, b, cov)) h
    brings_none (symbol b none g) h z = h
    brings_none (symbol b (some d) g) h z = ⊎_elim (λ y. omega (arith, h.0)) (λ y. omega (arith, cov)) h.1
    brings_none idle h b = b

    -- a root with the symbol's extent: what keeps beside the symbol keeps clear of it
    abbrev like : Row F
    like = record { entry = a; stop = e; bare = f; lines = [] }

    beside-clear : (o : Op F) → Beside o → Clear like o
    beside-clear (tree r kids) h = h
    beside-clear (symbol b none g) h = absurd h
    beside-clear (symbol b (some d) g) h = ⊎_elim (λ z. (inl (omega (arith, h.0)), inl z)) (λ z. (inr z, inr (omega (arith, h.0)))) h.1
    beside-clear idle h = tt

    -- before it comes: its start holds no frames, and there is no key strictly inside
    abbrev pub Fresh : Map F → Type 0
    Fresh m = ((g : F) (w : List F) → m a ≡ some (g ∷ w) → ⊥) × ((k : ℕ) → a < k → k < e → m k ≡ none)

    pub op_fresh : (o : Op F) (m : Map F) → Well o → Beside o → Fresh m → Fresh (convert-op o m)
    op_fresh o m well h n = (
      λ g w z. ⊎_elim (λ y. n.0 g w y) (λ b. brings_none o h b) (op_brings o m well a g w z),
      λ k y z. op-off like o m well (beside-clear o h) k y z ∙ n.1 k y z,
    )

    soft_fresh : (m : Map F) → Fresh m → insert_soft a (f ∷ []) m a ≡ some (f ∷ [])
    unfolding insert_soft
    soft_fresh m n = go (m a) refl
      where
        go : (o : Option (List F)) → m a ≡ o → insert_soft a (f ∷ []) m a ≡ some (f ∷ [])
        go none z = rw (z, insert_soft) (insert-same a (f ∷ []) m)
        go (some []) z = rw (z, insert_soft) (insert-same a (f ∷ []) m)
        go (some (g ∷ w)) z = absurd (n.0 g w z)

    -- when it comes
    pub symbol-seen : (m : Map F) → Fresh m → Sees (convert-op (symbol a (some e) f) m) a x (f ∷ [])
    unfolding convert-op convert-symbol
    symbol-seen m n = record {
      key = a;
      low = omega arith;
      high = cov.0;
      held = end_keeps e _ a f [] (soft_fresh m n);
      bare = λ k h g. end-other e _ k (omega (arith, cov)) ∙ soft_other a (f ∷ []) m k (omega arith) ∙ n.1 k h (omega (arith, cov));
    }

    -- after it
    pub run-beside : (os : List (Op F)) (m : Map F) → ((o : Op F) → o ∈ os → Well o) → ((o : Op F) → o ∈ os → Beside o) → Sees m a x (f ∷ []) → Sees (run os m) a x (f ∷ [])
    run-beside os m wells h q = run-keep like os m wells (λ o i. beside-clear o (h o i)) a x (f ∷ []) (f, [], refl) (omega arith) cov.1 cov.0 q
