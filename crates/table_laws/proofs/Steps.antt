-- Chained rows, by any hash of rows: a walk finds the newest row that is hit, and a row appended, or overwritten by one with its hash, keeps the chains.
use Prim.Native.Nat.{ℕ, zero, suc, ◌+◌, ◌*◌, ◌/◌, ◌%◌, ◌<◌, ◌≤◌}
use mathlib.Core.Path.{◌≡◌, refl, sym, ◌∙◌, ap}
use mathlib.Core.List.{List, [], ◌∷◌, ◌++◌}
use mathlib.Core.Bool.{Bool, true, false}
use mathlib.Core.Logic.{⊎_elim}
use native.Mathlib.Omega.{arith}
use native.Mathlib.Nat.{mod-lt, zero-add}
use native.Mathlib.Numerals.{add-one}
use lib.Dec.{eqb}
use lib.ListN.{length, get_or, replicate}
use borrow.Author.Tests.{ne_eqb, eqb-true, eqb-false}
use Rattle.tables.specs.Table.{row_at, rows_of, link_at, head_at, bucket_of, walk, append_of, set_row}
use Rattle.table_laws.specs.Plain.{last_with, bucket_at, Chained}
use Rattle.tables.specs.declared.Row.{Row}
use Rattle.table_laws.proofs.Chain.{last_hit, Miss, last-hit, last-miss, last-kept, walk-last, last-is}
use Rattle.table_laws.proofs.Rows.{set-row-other, set-row_link, set-row-head, set-row-same, append-low, append-top, append_link, append_link_top, append-head, append-head-other, rows_more, rows_same}

pub bucket-lt : (k cap : ℕ) → 0 < cap → bucket_of k cap < cap
unfolding bucket_of
bucket-lt k cap h = rw (ne_eqb cap 0 (λ e. omega arith)) (mod-lt (k / 512 * cap / 8388608 + k % 512) h)

-- ---- what is found: a row that is hit, or none is
pub data Look (hit : ℕ → Bool) (n i : ℕ) : Type 0 where
  found : i < n → hit i ≡ true → Look hit n i
  none : i ≡ n → Miss hit n → Look hit n i

module _ (hash : Row → ℕ) (cap n : ℕ) (t : List ℕ) (ch : Chained hash cap n t) (hit : ℕ → Bool) (k : ℕ) (into : (i : ℕ) → hit i ≡ true → hash (row_at t i) ≡ k) where
  find-last : walk (link_at t) hit n n (head_at cap t (bucket_of k cap)) ≡ last_hit hit n n
  find-last =
      rw (ch.heads (bucket_of k cap))
      (walk-last (link_at t) (bucket_at hash cap t) hit (bucket_of k cap) n (λ i e. ap (λ (x : ℕ). bucket_of x cap) (into i e)) n ch.links)

  pub look : Look hit n (walk (link_at t) hit n n (head_at cap t (bucket_of k cap)))
  look = rw find-last (⊎_elim (λ s. found s.0 s.1) (λ s. none s.0 s.1) (last-is hit n n))

-- ---- one more row
module _ (hash : Row → ℕ) (cap n : ℕ) (t : List ℕ) (q : Row) (ch : Chained hash cap n t) (room : n < cap) (fits : cap * 8 ≤ length t) where
  abbrev h₀ : ℕ
  h₀ = bucket_of (hash q) cap

  abbrev t₁ : List ℕ
  t₁ = append_of cap t n q (head_at cap t h₀) h₀

  pub row_low : (i : ℕ) → i < n → row_at t₁ i ≡ row_at t i
  row_low = append-low cap t n q (head_at cap t h₀) h₀ room

  pub row-top : row_at t₁ n ≡ q
  row-top = append-top cap t n q (head_at cap t h₀) h₀ room (omega arith)

  last-low : (h i : ℕ) → i ≤ n → last_with (bucket_at hash cap t₁) h i ≡ last_with (bucket_at hash cap t) h i
  last-low h i p = last-kept (bucket_at hash cap t) h (bucket_at hash cap t₁) i (λ j r. ap (λ (x : Row). bucket_of (hash x) cap) (row_low j (omega arith)))

  top-bucket : bucket_at hash cap t₁ n ≡ h₀
  top-bucket = ap (λ (x : Row). bucket_of (hash x) cap) row-top

  heads₁ : (h : ℕ) → head_at cap t₁ h ≡ last_with (bucket_at hash cap t₁) h (n + 1)
  heads₁ h = rw (add-one n) (go (eqb h h₀) refl)
    where
      go : (x : Bool) → eqb h h₀ ≡ x → head_at cap t₁ h ≡ last_with (bucket_at hash cap t₁) h (suc n)
      go true e =
          let g : h ≡ h₀ = eqb-true h h₀ e in
          rw (last-hit (bucket_at hash cap t₁) h n (top-bucket ∙ sym g), g, append-head cap t n q (head_at cap t h₀) h₀ (let b = bucket-lt (hash q) cap (omega arith) in omega arith), add-one n)
      go false e =
          let g : h ≡ h₀ → ⊥ = eqb-false h h₀ e in
          rw (last-miss (bucket_at hash cap t₁) h n (λ k. g (sym k ∙ top-bucket)), append-head-other cap t n q (head_at cap t h₀) h₀ room h g, last-low h n (omega arith)) (ch.heads h)

  links₁ : (i : ℕ) → i < n + 1 → link_at t₁ i ≡ last_with (bucket_at hash cap t₁) (bucket_at hash cap t₁ i) i
  links₁ i p = go (eqb i n) refl
    where
      go : (x : Bool) → eqb i n ≡ x → link_at t₁ i ≡ last_with (bucket_at hash cap t₁) (bucket_at hash cap t₁ i) i
      go true e = rw (eqb-true i n e, top-bucket, append_link_top cap t n q (head_at cap t h₀) h₀ room (omega arith), last-low h₀ n (omega arith)) (ch.heads h₀)
      go false e =
          let k : i < n = let g = eqb-false i n e in omega arith in
          rw (row_low i k, append_link cap t n q (head_at cap t h₀) h₀ room i k, last-low (bucket_at hash cap t i) i (omega arith)) (ch.links i k)

  pub chained_more : Chained hash cap (n + 1) t₁
  chained_more = record { heads = heads₁; links = links₁ }

  pub rows-stored : rows_of t₁ (n + 1) ≡ rows_of t n ++ (q ∷ [])
  rows-stored = rw (add-one n, rows_more t₁ 0 n, zero-add, row-top, rows_same t t₁ 0 n (λ i _ p. row_low i (omega arith)))

-- ---- a row overwritten by one with its hash
module _ (hash : Row → ℕ) (cap n : ℕ) (t : List ℕ) (q : Row) (ch : Chained hash cap n t) (i : ℕ) (below : i < n) (under : n ≤ cap) (fits : cap * 8 ≤ length t) (same : hash q ≡ hash (row_at t i)) where
  abbrev t₂ : List ℕ
  t₂ = set_row t i q

  hash₂ : (j : ℕ) → hash (row_at t₂ j) ≡ hash (row_at t j)
  hash₂ j = go (eqb j i) refl
    where
      go : (x : Bool) → eqb j i ≡ x → hash (row_at t₂ j) ≡ hash (row_at t j)
      go true e = rw (eqb-true j i e, set-row-same t i q (omega arith)) same
      go false e = ap hash (set-row-other t i q j (eqb-false j i e))

  last₂ : (h j : ℕ) → last_with (bucket_at hash cap t₂) h j ≡ last_with (bucket_at hash cap t) h j
  last₂ h j = last-kept (bucket_at hash cap t) h (bucket_at hash cap t₂) j (λ k p. ap (λ (x : ℕ). bucket_of x cap) (hash₂ k))

  pub chained-over : Chained hash cap n t₂
  chained-over = record {
    heads = λ h. rw (set-row-head t i q cap (omega arith) h, last₂ h n) (ch.heads h);
    links = λ j p. rw (set-row_link t i q j, last₂ (bucket_at hash cap t₂ j) j, hash₂ j) (ch.links j p);
  }

-- ---- a beginning: zeroed memory
pub zeros : (k h : ℕ) → ◌≡◌ {A = ℕ} (get_or (replicate k 0) h 0) 0
zeros zero h = refl
zeros (suc k) zero = refl
zeros (suc k) (suc h) = zeros k h

pub chained-begun : (hash : Row → ℕ) (cap words : ℕ) → Chained hash cap 0 (replicate words 0)
unfolding head_at last_with
chained-begun hash cap words = record { heads = λ h. zeros words (cap * 7 + h); links = λ i p. absurd (omega arith) }
