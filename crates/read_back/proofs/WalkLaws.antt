-- Every walk in every file ends, after at most as many frames as there are locations.
use Prim.Native.Nat.{ℕ, zero, suc, ◌+◌, ◌≤◌}
use mathlib.Core.Path.{◌≡◌, refl, ap, sym}
use mathlib.Core.List.{List, [], ◌∷◌}
use mathlib.Core.Option.{Option, none, some}
use mathlib.Core.Bool.{Bool, true, false, cond, ◌||◌}
use native.Mathlib.Nat.{add-zero, add-suc}
use native.Mathlib.Omega.{arith}
use lib.Dec.{leb, eqb}
use lib.ListN.{length}
use borrow.Author.Tests.{le-leb}
use Rattle.raw.specs.Rows.{max32}
use Rattle.symcache.specs.declared.SymCache.{SymCache}
use Rattle.lookup.specs.declared.SourceLocations.{SourceLocations}
use Rattle.lookup.specs.declared.Frame.{Frame}
use Rattle.lookup.specs.Answers.{Framed}
use Rattle.lookup.specs.Lookup.{met, framed, ended, step_in_lem, frames_in}

ends_there : (a b d : Bool) → (a || (b || (true || d))) ≡ true
ends_there true b d = refl
ends_there false true d = refl
ends_there false false d = refl

module _ (s : List ℕ) (c : SymCache) where
  -- a cursor whose steps reach the count of locations is at the end
  pub steps-end : (k : SourceLocations) → c.num_source_locations ≤ k.steps → step_in_lem s c k ≡ none
  unfolding step_in_lem ended
  steps-end k h =
      rw (
        le-leb c.num_source_locations k.steps h,
        ends_there (eqb k.current max32) (leb c.num_source_locations k.current) (met s c k.current k.first k.steps),
      )

  -- each step is counted
  pub step_counts : (k : SourceLocations) (t : Framed) → step_in_lem s c k ≡ some t → t.next.steps ≡ k.steps + 1
  unfolding step_in_lem
  step_counts k t e = go (ended s c k) e
    where
      go : (b : Bool) → cond b none (some (framed s c k)) ≡ some t → t.next.steps ≡ k.steps + 1
      go true e = let z : ◌≡◌ {A = ℕ} 0 1 = cc in absurd (omega arith)
      go false e = let q : framed s c k ≡ t = cc in ap (λ (x : Framed). x.next.steps) (sym q)

  no_more : (m : ℕ) (k : SourceLocations) → step_in_lem s c k ≡ none → frames_in s c m k ≡ []
  unfolding frames_in
  no_more zero k e = refl
  no_more (suc m) k e = rw (e, frames_in)

  -- so asking for more frames gives no more
  pub walk_ends : (n m : ℕ) (k : SourceLocations) → c.num_source_locations ≤ k.steps + n → frames_in s c (m + n) k ≡ frames_in s c n k
  unfolding frames_in
  walk_ends zero m k h = rw (add-zero m) (no_more m k (steps-end k (omega arith)))
  walk_ends (suc n) m k h = rw (add-suc m n) (go (step_in_lem s c k) (λ t e. walk_ends n m t.next (omega (arith, step_counts k t e))))
    where
      go : (o : Option Framed) → ((t : Framed) → o ≡ some t → frames_in s c (m + n) t.next ≡ frames_in s c n t.next)
          → ◌≡◌ {A = List Frame} (elim o [ none ↦ [] | some t ↦ t.frame ∷ frames_in s c (m + n) t.next ]) (elim o [ none ↦ [] | some t ↦ t.frame ∷ frames_in s c n t.next ])
      go none r = refl
      go (some t) r = ap (λ (l : List Frame). t.frame ∷ l) (r t refl)

  pub walk-short : (n : ℕ) (k : SourceLocations) → length (frames_in s c n k) ≤ n
  unfolding frames_in
  walk-short zero k = omega arith
  walk-short (suc n) k = go (step_in_lem s c k) (λ t. walk-short n t.next)
    where
      go : (o : Option Framed) → ((t : Framed) → length (frames_in s c n t.next) ≤ n) → length {A = Frame} (elim o [ none ↦ [] | some t ↦ t.frame ∷ frames_in s c n t.next ]) ≤ suc n
      go none r = omega arith
      go (some t) r = omega (arith, r t)

  -- THE WALK FROM ANY CURSOR, a made-up one too, has at most as many frames as there are locations: however many are asked for
  pub walk-within : (m : ℕ) (k : SourceLocations) → length (frames_in s c (m + c.num_source_locations) k) ≤ c.num_source_locations
  walk-within m k = rw (walk_ends c.num_source_locations m k (omega arith)) (walk-short c.num_source_locations k)
