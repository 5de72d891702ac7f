-- Pairs in scratch: what is left of them after a store, one pair by one, and the table of call locations.
use mathlib.Core.Path.{◌≡◌, refl, sym, ap, ◌∙◌}
use mathlib.Core.Logic.{◌⊎◌, ⊎_elim}
use mathlib.Core.List.{List, [], ◌∷◌, ◌++◌, map, map-append}
use Prim.Native.Nat.{ℕ, zero, suc, ◌+◌, ◌*◌, ◌-◌, ◌/◌, ◌%◌, ◌≤◌, ◌<◌}
use native.Mathlib.Omega.{arith}
use native.Mathlib.Numerals.{add-one}
use lib.ListN.{length, get_or, set, take}
use lib.Seq.{get_or-set_other, get_or-take, length-sets}
use Rattle.slices.proofs.Runs.{sets-low, sets-high, sets_in}
use Rattle.model.specs.Basics.{Span}
use Rattle.scratch.specs.Scratch.{pairs_at, ref_of, refs_at, two32, calls_start, len_at, set_calls}

-- the pair at word b
abbrev pub pair_at : List ℕ → ℕ → Span
pair_at s b = record { from = get_or s b 0; to = get_or s (b + 1) 0 }

-- ── Other content, the same pairs ──

-- a list that agrees on the words of the pairs has the same pairs
pub pairs-same : (s s' : List ℕ) (b n : ℕ) → ((j : ℕ) → b ≤ j → j < b + n * 2 → get_or s' j 0 ≡ get_or s j 0) → pairs_at s' b n ≡ pairs_at s b n
unfolding pairs_at
pairs-same s s' b zero h = refl
pairs-same s s' b (suc n) h =
    rw (h b (omega arith) (omega arith), h (b + 1) (omega arith) (omega arith), pairs-same s s' (b + 2) n (λ j p q. h j (omega arith) (omega arith)))

-- below a place that is kept
pub get_d_kept : (s s' : List ℕ) (m j : ℕ) → take m s' ≡ take m s → j < m → get_or s' j 0 ≡ get_or s j 0
get_d_kept s s' m j e h = sym (get_or-take m s' j 0 h) ∙ ap (λ (l : List ℕ). get_or l j 0) e ∙ get_or-take m s j 0 h

pub pairs-kept : (s s' : List ℕ) (b n m : ℕ) → take m s' ≡ take m s → b + n * 2 ≤ m → pairs_at s' b n ≡ pairs_at s b n
pairs-kept s s' b n m e h = pairs-same s s' b n (λ j p q. get_d_kept s s' m j e (omega arith))

-- a word stored below them, or past them
pub pairs-above : (s : List ℕ) (b n j v : ℕ) → j < b → pairs_at (set s j v) b n ≡ pairs_at s b n
pairs-above s b n j v h = pairs-same s (set s j v) b n (λ i p q. get_or-set_other s j i v 0 (λ e. omega arith))

pub pairs_below : (s : List ℕ) (b n j v : ℕ) → b + n * 2 ≤ j → pairs_at (set s j v) b n ≡ pairs_at s b n
pairs_below s b n j v h = pairs-same s (set s j v) b n (λ i p q. get_or-set_other s j i v 0 (λ e. omega arith))

-- ── One by one ──

pub length_pairs : (s : List ℕ) (b n : ℕ) → length (pairs_at s b n) ≡ n
unfolding pairs_at
length_pairs s b zero = refl
length_pairs s b (suc n) = ap suc (length_pairs s (b + 2) n)

-- n pairs and one more
pairs-suc : (s : List ℕ) (b n : ℕ) → pairs_at s b (suc n) ≡ pairs_at s b n ++ (pair_at s (b + n * 2) ∷ [])
unfolding pairs_at
pairs-suc s b zero = let e : b + 0 * 2 ≡ b = omega arith in rw e
pairs-suc s b (suc n) =
    let e : b + suc n * 2 ≡ b + 2 + n * 2 = omega arith in rw e (ap (λ (l : List Span). pair_at s b ∷ l) (pairs-suc s (b + 2) n))

pub pairs-more : (s : List ℕ) (b n : ℕ) → pairs_at s b (n + 1) ≡ pairs_at s b n ++ (pair_at s (b + n * 2) ∷ [])
pairs-more s b n = rw (add-one n) (pairs-suc s b n)

-- after t of n pairs there is one, or none
pub pairs_next : (s : List ℕ) (b n t : ℕ) → t < n → pairs_at s (b + t * 2) (n - t) ≡ pair_at s (b + t * 2) ∷ pairs_at s (b + (t + 1) * 2) (n - (t + 1))
unfolding pairs_at
pairs_next s b n t h =
    let e : n - t ≡ suc (n - (t + 1)) = omega arith in
    let f : b + t * 2 + 2 ≡ b + (t + 1) * 2 = omega arith in
    rw (e, f)

pub pairs-none : (s : List ℕ) (b n t : ℕ) → n ≤ t → pairs_at s b (n - t) ≡ []
unfolding pairs_at
pairs-none s b n t h = let e : n - t ≡ 0 = omega arith in rw e

pub pairs-zero : (s : List ℕ) (b : ℕ) → pairs_at s b 0 ≡ []
unfolding pairs_at
pairs-zero s b = refl

pub pairs-whole : (s : List ℕ) (b n : ℕ) → pairs_at s (b + 0 * 2) (n - 0) ≡ pairs_at s b n
pairs-whole s b n =
    let e : b + 0 * 2 ≡ b = omega arith in
    let f : n - 0 ≡ n = omega arith in
    rw (e, f)

-- the same of call locations
pub refs_more : (s : List ℕ) (b n : ℕ) → refs_at s b (n + 1) ≡ refs_at s b n ++ (ref_of (pair_at s (b + n * 2)) ∷ [])
refs_more s b n = ap (map ref_of) (pairs-more s b n) ∙ map-append ref_of (pairs_at s b n) (pair_at s (b + n * 2) ∷ [])

-- ── The table of call locations ──

module _ (s : List ℕ) (d start len : ℕ) where
  pub length-calls : length (set_calls s d start len) ≡ length s
  unfolding set_calls
  length-calls = length-sets s (d * 4) (start % two32 ∷ start / two32 ∷ len % two32 ∷ len / two32 ∷ [])

  -- outside of its four words nothing changes
  pub calls-other : (j : ℕ) → (j < d * 4) ⊎ (d * 4 + 4 ≤ j) → get_or (set_calls s d start len) j 0 ≡ get_or s j 0
  unfolding set_calls
  calls-other j h =
      let vs = start % two32 ∷ start / two32 ∷ len % two32 ∷ len / two32 ∷ [] in
      ⊎_elim (sets-low vs s (d * 4) j) (sets-high vs s (d * 4) j) h

  module _ (room : d * 4 + 4 ≤ length s) where
    words-at : (i : ℕ) → i < 4 → get_or (set_calls s d start len) (d * 4 + i) 0 ≡ get_or (start % two32 ∷ start / two32 ∷ len % two32 ∷ len / two32 ∷ []) i 0
    unfolding set_calls
    words-at i h = sets_in (start % two32 ∷ start / two32 ∷ len % two32 ∷ len / two32 ∷ []) s (d * 4) i (d * 4 + i) refl h room

    pub start-set : calls_start (set_calls s d start len) d ≡ start
    start-set =
        let z : d * 4 + 0 ≡ d * 4 = omega arith in
        let a : get_or (set_calls s d start len) (d * 4) 0 ≡ start % two32 = ap (λ (j : ℕ). get_or (set_calls s d start len) j 0) (sym z) ∙ words-at 0 (omega arith) in
        let b : get_or (set_calls s d start len) (d * 4 + 1) 0 ≡ start / two32 = words-at 1 (omega arith) in
        omega arith

    pub len-set : len_at (set_calls s d start len) d ≡ len
    len-set =
        let a : get_or (set_calls s d start len) (d * 4 + 2) 0 ≡ len % two32 = words-at 2 (omega arith) in
        let b : get_or (set_calls s d start len) (d * 4 + 3) 0 ≡ len / two32 = words-at 3 (omega arith) in
        omega arith
