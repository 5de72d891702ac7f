-- The loop over the entries: location i and start i are stored from entry i, which no earlier turn stored over.
use Prim.Native.Nat.{ℕ, ◌+◌, ◌*◌, ◌<◌, ◌≤◌}
use mathlib.Core.Path.{◌≡◌, refl, ap, sym, ◌∙◌}
use mathlib.Core.List.{List, [], ◌∷◌, ◌++◌}
use native.Mathlib.Numerals.{add-one}
use native.Mathlib.Omega.{arith}
use lib.ListN.{length}
use lib.Seq.{sets, length-sets}
use Rattle.model.specs.Basics.{Span}
use Rattle.slices.specs.Bytes.{le_at, table_bytes}
use Rattle.raw.specs.Rows.{location_bytes, range_bytes}
use Rattle.raw.specs.declared.SourceLocation.{SourceLocation}
use Rattle.slices.proofs.Bytes.{sets_join, length-table}
use Rattle.tables.specs.Table.{row_at}
use Rattle.tables.specs.Kinds.{location_of_lem}
use Rattle.serialize.specs.Sections.{entries_at, location_row, start_row, range_sections}
use Rattle.serialize.proofs.Runs.{le_at-below, le_at-above, sets_comm}
use Rattle.serialize.proofs.Rows.{length-location_row, length-start_row, table-turn, entry_at, length-entries-at, entries-at-more}

-- what the first i turns leave of s: `all` entries stand at + all * 8, the starts go to at + all * 16
unfoldable pub turned : List ℕ → List ℕ → ℕ → ℕ → ℕ → List ℕ
turned t s at all i =
    sets (sets s at (table_bytes (location_row t) (entries_at i s (at + all * 8)))) (at + all * 16) (table_bytes start_row (entries_at i s (at + all * 8)))

module _ (t s : List ℕ) (at all i : ℕ) where
  -- a number between the locations stored and the starts is as it was
  pub turned-read : (k : ℕ) → at + 16 * i ≤ k → k + 4 ≤ at + all * 16 → le_at 4 (turned t s at all i) k ≡ le_at 4 s k
  unfolding turned
  turned-read k g h =
      let es = entries_at i s (at + all * 8) in
      le_at-below 4 (table_bytes start_row es) (sets s at (table_bytes (location_row t) es)) (at + all * 16) k h
      ∙ le_at-above 4 (table_bytes (location_row t) es) s at k (rw (length-table (location_row t) 16 (length-location_row t) es, length-entries-at i s (at + all * 8)) g)

  -- one turn
  pub turned_more : i < all → (p : Span) → p ≡ entry_at s (at + all * 8 + 8 * i)
      → sets (sets (turned t s at all i) (at + all * 16 + i * 4) (start_row p)) (at + i * 16) (location_row t p) ≡ turned t s at all (i + 1)
  unfolding turned
  turned_more h p e =
      let es = entries_at i s (at + all * 8) in
      let l : length es ≡ i = length-entries-at i s (at + all * 8) in
      let x = sets s at (table_bytes (location_row t) es) in
      let starts : sets (sets x (at + all * 16) (table_bytes start_row es)) (at + all * 16 + i * 4) (start_row p) ≡ sets x (at + all * 16) (table_bytes start_row (es ++ (p ∷ [])))
      = table-turn start_row 4 length-start_row x (sets x (at + all * 16) (table_bytes start_row es)) (at + all * 16) (at + all * 16 + i * 4) es p refl (omega arith) in
      let locations : sets x (at + i * 16) (location_row t p) ≡ sets s at (table_bytes (location_row t) (es ++ (p ∷ [])))
      = table-turn (location_row t) 16 (length-location_row t) s x at (at + i * 16) es p refl (omega arith) in
      let more : entries_at (i + 1) s (at + all * 8) ≡ es ++ (p ∷ []) = rw (add-one i, e) (entries-at-more i s (at + all * 8)) in
      rw (starts, more)
      (sym (sets_comm (location_row t p) (table_bytes start_row (es ++ (p ∷ []))) x (at + i * 16) (at + all * 16) (rw (length-location_row t p) (omega arith)))
      ∙ ap (λ (r : List ℕ). sets r (at + all * 16) (table_bytes start_row (es ++ (p ∷ [])))) locations)

  -- the same, as the code makes it: from start and row number, read at entry i
  pub turned-step : (out : List ℕ) → out ≡ turned t s at all i → i < all → (start row : ℕ) (l : SourceLocation) (out₁ out₂ : List ℕ)
      → start ≡ le_at 4 out (at + all * 8 + i * 8) → row ≡ le_at 4 out (at + all * 8 + i * 8 + 4) → l ≡ location_of_lem (row_at t row)
      → out₁ ≡ sets out (at + all * 16 + i * 4) (range_bytes (record { 0 = start })) → out₂ ≡ sets out₁ (at + i * 16) (location_bytes l) → out₂ ≡ turned t s at all (i + 1)
  unfolding location_row start_row
  turned-step out e h start row l out₁ out₂ es er el e₁ e₂ =
      let k : at + all * 8 + i * 8 ≡ at + all * 8 + 8 * i = omega arith in
      let a : start ≡ le_at 4 s (at + all * 8 + 8 * i) = es ∙ rw (e, turned-read (at + all * 8 + i * 8) (omega arith) (omega arith), k) in
      let b : row ≡ le_at 4 s (at + all * 8 + 8 * i + 4) = er ∙ rw (e, turned-read (at + all * 8 + i * 8 + 4) (omega arith) (omega arith), k) in
      let p : ◌≡◌ {A = Span} (record { from = start; to = row }) (entry_at s (at + all * 8 + 8 * i)) = cc in
      rw (e₂, e₁, el, e) (turned_more h (record { from = start; to = row }) p)

pub length-turned : (t s : List ℕ) (at all i : ℕ) → length (turned t s at all i) ≡ length s
unfolding turned
length-turned t s at all i = rw (length-sets, length-sets)

-- all turns: the locations, and the starts behind them
pub turned-all : (t s : List ℕ) (at all : ℕ) → turned t s at all all ≡ sets s at (range_sections t (entries_at all s (at + all * 8)))
unfolding turned range_sections
turned-all t s at all =
    let es = entries_at all s (at + all * 8) in
    sets_join (table_bytes (location_row t) es) (table_bytes start_row es) s at (at + all * 16)
    (rw (length-table (location_row t) 16 (length-location_row t) es, length-entries-at all s (at + all * 8)) (omega arith))

pub turned_none : (t s : List ℕ) (at all : ℕ) → s ≡ turned t s at all 0
unfolding turned entries_at table_bytes
turned_none t s at all = refl
