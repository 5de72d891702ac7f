-- Laws that the functions of src/lookup.rt cite.
use Prim.Native.Nat.{ℕ, zero, suc, ◌+◌, ◌*◌, ◌-◌, ◌≤◌, ◌<◌}
use mathlib.Core.Path.{◌≡◌, refl, sym}
use mathlib.Core.List.{List}
use mathlib.Core.Option.{none, some}
use mathlib.Core.Bool.{Bool, true, false, cond, ◌||◌}
use native.Mathlib.Omega.{arith}
use native.Mathlib.Numerals.{add-one}
use lib.Dec.{leb, eqb}
use borrow.Author.Tests.{lt-ltb, le-ltb, eq-eqb, ne_eqb, leb-false}
use Rattle.raw.specs.Rows.{max32, function_at_lem, is_no_source_location}
use Rattle.symcache.specs.declared.SymCache.{SymCache}
use Rattle.lookup.specs.declared.SourceLocations.{SourceLocations}
use Rattle.symcache.specs.Answers.{Answer, gives, and_then}
use Rattle.lookup.specs.Lookup.{met, ended, found_at, walk_from_lem, walk_at_lem, next_function}
use Rattle.symcache.proofs.ReaderLaws.{parsed-within}
use Rattle.symcache.specs.Reader.{location_in_lem}

neither : (a b : Bool) → (a || b) ≡ false → (a ≡ false) × (b ≡ false)
neither true b e = let z : ◌≡◌ {A = ℕ} 0 1 = cc in absurd (omega arith)
neither false b e = (refl, e)

-- ── The lent bytes come first ──

pub then-gives : {B : Type 0} (p : Answer SymCache) (c : SymCache) (f : SymCache → Answer B) (r : Answer B) → p ≡ gives c → r ≡ f c → r ≡ and_then p f
unfolding and_then
then-gives p c f r e h = rw (e, and_then) h

-- what the functions cite that read the lent bytes first
pub ruleset read_cases = (parsed-within)

-- ── An index met ──

module _ (s : List ℕ) (c : SymCache) (i j n : ℕ) (more : 0 < n) where
  pub met-here : j ≡ i → met s c i j n ≡ true
  unfolding met
  met-here e = go n more
    where
      go : (n : ℕ) → 0 < n → met s c i j n ≡ true
      go zero h = absurd (omega arith)
      go (suc n) h = rw (eq-eqb j i e)

  pub met-outside : (j ≡ i → ⊥) → c.num_source_locations ≤ j → met s c i j n ≡ false
  unfolding met
  met-outside e l = go n more
    where
      go : (n : ℕ) → 0 < n → met s c i j n ≡ false
      go zero h = absurd (omega arith)
      go (suc n) h = rw (ne_eqb j i e, le-ltb j c.num_source_locations l)

  pub met-further : (m : ℕ) → suc m ≡ n → (j ≡ i → ⊥) → j < c.num_source_locations → met s c i (location_in_lem s c j).inlined_into_idx m ≡ met s c i j n
  unfolding met
  met-further m k e l = rw (← k, ne_eqb j i e, lt-ltb j c.num_source_locations l)

pub met-nowhere : (s : List ℕ) (c : SymCache) (i j n : ℕ) → n ≤ 0 → false ≡ met s c i j n
unfolding met
met-nowhere s c i j zero h = refl
met-nowhere s c i j (suc n) h = absurd (omega arith)

-- what `is_met` cites
pub ruleset met_cases = (met-here, met-outside, met-nowhere)

-- ── Functions with an entry ──

module _ (s : List ℕ) (c : SymCache) (i n : ℕ) where
  pub function-passed : i < n → (function_at_lem s (c.functions + 16 * i)).entry_pc ≡ max32 → next_function s c (i + 1) (n - (i + 1)) ≡ next_function s c i (n - i)
  unfolding next_function
  function-passed h e =
      let p : n - i ≡ suc (n - (i + 1)) = omega arith in
      rw (p, eq-eqb (function_at_lem s (c.functions + 16 * i)).entry_pc max32 e, add-one i)

  pub function-given : i < n → ((function_at_lem s (c.functions + 16 * i)).entry_pc ≡ max32 → ⊥)
      → some (record { index = i; function = function_at_lem s (c.functions + 16 * i); next = record { function_idx = i + 1 } }) ≡ next_function s c i (n - i)
  unfolding next_function
  function-given h e =
      let p : n - i ≡ suc (n - (i + 1)) = omega arith in
      rw (p, ne_eqb (function_at_lem s (c.functions + 16 * i)).entry_pc max32 e)

  pub functions-end : n ≤ i → none ≡ next_function s c i (n - i)
  unfolding next_function
  functions-end h = let p : n - i ≡ zero = omega arith in rw p

-- what `next_function` cites
pub ruleset function_cases = (function-passed, function-given, functions-end)

-- ── The walk ──

-- a walk that goes on
pub goes_on : (s : List ℕ) (c : SymCache) (k : SourceLocations) → ended s c k ≡ false → (k.current < c.num_source_locations) × (k.steps < c.num_source_locations)
unfolding ended
goes_on s c k e =
    let n = c.num_source_locations in
    let m = met s c k.current k.first k.steps in
    let (x, y) = neither (eqb k.current max32) (leb n k.current || (leb n k.steps || m)) e in
    let (z, w) = neither (leb n k.current) (leb n k.steps || m) y in
    let (u, v) = neither (leb n k.steps) m w in
    (leb-false n k.current z, leb-false n k.steps u)

module _ (s : List ℕ) (c : SymCache) (a i : ℕ) (is : i ≡ found_at s c a) where
  pub walk-nowhere : i ≡ max32 → walk_from_lem max32 ≡ walk_at_lem s c a
  unfolding walk_at_lem
  walk-nowhere e = rw (← is, eq-eqb i max32 e)

  pub walk-empty : (i ≡ max32 → ⊥) → is_no_source_location (location_in_lem s c i) ≡ true → walk_from_lem max32 ≡ walk_at_lem s c a
  unfolding walk_at_lem
  walk-empty n e = rw (← is, ne_eqb i max32 n, e)

  pub walk_begins : (i ≡ max32 → ⊥) → is_no_source_location (location_in_lem s c i) ≡ false → walk_from_lem i ≡ walk_at_lem s c a
  unfolding walk_at_lem
  walk_begins n e = rw (← is, ne_eqb i max32 n, e)

  -- either, by the test at hand
  pub walk-tested : (i ≡ max32 → ⊥) → {t : Bool} {j : ℕ} → t ≡ is_no_source_location (location_in_lem s c i) → j ≡ cond t max32 i → walk_from_lem j ≡ walk_at_lem s c a
  walk-tested n {t = true} e f = rw f (walk-empty n (sym e))
  walk-tested n {t = false} e f = rw f (walk_begins n (sym e))

-- what `step_in` and `walk` cite
pub ruleset step_cases = (goes_on)

pub ruleset walk_cases = (walk-nowhere, walk-tested)
