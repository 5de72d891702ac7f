-- THE TABLES AS A FILE HAS THEM: the plain ones, with the ranges ascending by start; and document 01's "Lookup" over them.
use Rattle.std.specs.Prelude.{Bool, true, false, cond, List, [], ◌∷◌, ◌++◌, map, ℕ, zero, suc, ◌+◌, length, ltb, leb, eqb}
use Rattle.std.proofs.Math.Option.{Option, none, some}
use Rattle.std.proofs.Math.ListN.{get_elem?}
use Rattle.model.specs.Basics.{Entry}
use Rattle.model.specs.Rows.{MAX}
use Rattle.model.specs.Converter.{Location, Tables, is_nowhere}
use Rattle.model.specs.Frames.{Frame, frame_of, caller_of}

-- ── Writing ──

module _ {L : Type 0} where
  -- in its place by start; one with that start is replaced
  unfoldable pub place_range : ℕ → L → List (Entry L) → List (Entry L)
  place_range k v [] = record { key = k; value = v } ∷ []
  place_range k v (e ∷ es) =
      cond (ltb k e.key) (record { key = k; value = v } ∷ e ∷ es) (cond (eqb k e.key) (record { key = k; value = v } ∷ es) (e ∷ place_range k v es))

  unfoldable pub by_start : List (Entry L) → List (Entry L)
  by_start [] = []
  by_start (e ∷ es) = place_range e.key e.value (by_start es)

-- s, with other ranges
abbrev pub over : Tables → List (Entry Location) → Tables
over s r = record { texts = s.texts; files = s.files; functions = s.functions; calls = s.calls; ranges = r }

abbrev pub as_written : Tables → Tables
as_written s = over s (by_start s.ranges)

-- "call locations followed by range locations"
abbrev pub locations : Tables → List Location
locations s = s.calls ++ map (λ (e : Entry Location). e.value) s.ranges

-- ── Lookup ──

-- how many of the ascending starts are at most x
unfoldable pub count : List (Entry Location) → ℕ → ℕ
count [] x = 0
count (e ∷ es) x = elim (leb e.key x) [ true ↦ suc (count es x) | false ↦ 0 ]

unfoldable pub met? : ℕ → List ℕ → Bool
met? i [] = false
met? i (k ∷ ks) = cond (eqb i k) true (met? i ks)

-- "The walk ends at MAX, outside the table, or at an index already met"; here in k steps at most
unfoldable pub follow : ℕ → Tables → List ℕ → Option ℕ → List Frame
follow zero s met c = []
follow (suc k) s met none = []
follow (suc k) s met (some i) =
    elim (met? i met) [
      | true ↦ []
      | false ↦ elim (get_elem? (locations s) i) [ none ↦ [] | some l ↦ frame_of s l ∷ follow k s (i ∷ met) (caller_of l) ]
    ]

-- "Only the first location is tested for the empty mapping"
unfoldable pub frames_from : Tables → ℕ → List Frame
frames_from s i = elim (get_elem? (locations s) i) [ none ↦ [] | some l ↦ cond (is_nowhere l) [] (follow (suc (length (locations s))) s [] (some i)) ]

-- the location of the last start at most x; none for an address above MAX
unfoldable pub looked_up : Tables → ℕ → List Frame
looked_up s x = elim (ltb MAX x) [ true ↦ [] | false ↦ elim (count s.ranges x) [ zero ↦ [] | suc i ↦ frames_from s (length s.calls + i) ] ]
