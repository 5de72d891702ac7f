-- ONE ROW: what it leaves in scratch where it is passed over, and where its lines are walked.
use mathlib.Core.Path.{◌≡◌, refl, sym, ap, ◌∙◌}
use mathlib.Core.Bool.{true, false}
use mathlib.Core.Logic.{inr}
use mathlib.Core.List.{List, [], ◌∷◌, map}
use Prim.Native.Nat.{ℕ, suc, ◌+◌, ◌*◌, ◌-◌, ◌≤◌, ◌<◌}
use native.Mathlib.Omega.{arith}
use lib.ListN.{length, take}
use Rattle.model.specs.Basics.{Span, sort}
use Rattle.model.specs.Rows.{MAX}
use Rattle.model.specs.Machine.{Input, Machine, Ref, LoopedM, loop_m, closing_m, row_m}
use Rattle.scratch.specs.Scratch.{pairs_at, ref_of, refs_at, calls_start, len_at, set_calls, calls_of, Lined, RowDone}
use Rattle.scratch.proofs.Pairs.{pair_at, get_d_kept, pairs-same, pairs-zero, calls-other, start-set, len-set}

-- ── A row, case by case ──

module _ {Q N Y R P L C S : Type 0} (I : Input Q N Y) (M : Machine Q N Y R P L C S) (q : Q) (ss : List Span) (w : S) where
  -- "No call location made: inlinees aren't visited"
  pub row-empty : row_m I M q ss [] w ≡ record { state = w; calls = [] }
  unfolding row_m
  row-empty = refl

  pub row-skipped : (cs : List (Ref C)) → I.skipped q ≡ true → row_m I M q ss cs w ≡ record { state = w; calls = [] }
  unfolding row_m
  row-skipped [] h = refl
  row-skipped (c ∷ cs) h = rw (h, row_m)

  pub row-visited : (c : Ref C) (cs : List (Ref C)) → I.skipped q ≡ false
      → let b = M.begin q w in
      let o = loop_m I M q b.0 (I.lines q) c.ref cs (sort ss) 0 b.1 in
      row_m I M q ss (c ∷ cs) w ≡ record { state = closing_m I M q b.0 o.state; calls = o.calls }
  unfolding row_m
  row-visited c cs h = rw (h, row_m)

-- ── The call locations of a depth, as the code reads them ──

pub calls-root : (s : List ℕ) (base b : ℕ) → calls_of s base 0 ≡ record { addr = 0; ref = MAX } ∷ refs_at s b 0
unfolding calls_of
calls-root s base b = rw (pairs-zero s b)

pub calls-none : (s : List ℕ) (base d : ℕ) → len_at s d ≡ 0 → calls_of s base (suc d) ≡ []
unfolding calls_of
calls-none s base d h = rw (h, pairs-zero s (base + calls_start s d * 2))

pub calls-some : (s : List ℕ) (base d : ℕ) → 0 < len_at s d
    → calls_of s base (suc d) ≡ ref_of (pair_at s (base + calls_start s d * 2)) ∷ refs_at s (base + calls_start s d * 2 + 2) (len_at s d - 1)
unfolding calls_of pairs_at
calls-some s base d h = let e : len_at s d ≡ suc (len_at s d - 1) = omega arith in go (len_at s d) (len_at s d - 1) e
  where
    go : (m n : ℕ) → m ≡ suc n → refs_at s (base + calls_start s d * 2) m ≡ ref_of (pair_at s (base + calls_start s d * 2)) ∷ refs_at s (base + calls_start s d * 2 + 2) n
    go m n e = rw e

-- ── What is left in scratch ──

module _ {S : Type 0} (base d top n : ℕ) (low : d * 4 + 4 ≤ base) where
  -- the lines were walked: scratch s became s₂ (the inlinee ranges sorted, from pair `top` on), and then s₃; m call locations were made
  pub visited : (s s₂ s₃ : List ℕ) (o : LoopedM ℕ S) (w₃ : S) (m : ℕ) (p : LoopedM ℕ S) (w : S)
      → base ≤ length s₃ → take (base + top * 2) s₂ ≡ take (base + top * 2) s → Lined (base + top * 2) n o s₂ s₃ w₃ m
      → w ≡ p.state → o.calls ≡ p.calls → RowDone base d top n p s (set_calls s₃ d top m) w
  unfolding calls_of
  visited s s₂ s₃ o w₃ m p w room e l f g = record {
    state = f;
    calls =
        rw (start-set s₃ d top m (omega arith), len-set s₃ d top m (omega arith))
        (ap (map ref_of) (pairs-same s₃ (set_calls s₃ d top m) (base + top * 2) m (λ j a b. calls-other s₃ d top m j (inr (omega arith)))) ∙ l.calls ∙ g);
    start = start-set s₃ d top m (omega arith);
    few = rw (len-set s₃ d top m (omega arith)) l.few;
    kept = λ j h z. calls-other s₃ d top m j z ∙ get_d_kept s₂ s₃ (base + top * 2) j l.kept h ∙ get_d_kept s s₂ (base + top * 2) j e h;
  }

  -- it was passed over
  pub passed_over : (s : List ℕ) (p : LoopedM ℕ S) (w : S) → base ≤ length s → p ≡ record { state = w; calls = [] } → RowDone base d top n p s (set_calls s d top 0) w
  unfolding calls_of
  passed_over s p w room e = record {
    state = sym (ap (λ (x : LoopedM ℕ S). x.state) e);
    calls =
        rw (len-set s d top 0 (omega arith), pairs-zero (set_calls s d top 0) (base + calls_start (set_calls s d top 0) d * 2)) (sym (ap (λ (x : LoopedM ℕ S). x.calls) e));
    start = start-set s d top 0 (omega arith);
    few = rw (len-set s d top 0 (omega arith)) (omega arith);
    kept = λ j h z. calls-other s d top 0 j z;
  }
