-- WHERE A WALK ENDS, in every file: a cursor that `lookup` gave, and each that `next` hands on from it, ends by the rule of document 01 alone.
-- `ended` has one clause more, on the steps: it is there for made-up cursors, and never cuts such a walk.
use Rattle.std.specs.Prelude.{ℕ, ◌≡◌, Bool, true, false, ◌||◌, ◌↔◌, List, [], ◌∷◌, map, eqb, leb}
use Rattle.std.proofs.Math.Option.{none, some}
use Rattle.raw.specs.Rows.{max32}
use Rattle.symcache.specs.declared.SymCache.{SymCache}
use Rattle.symcache.specs.Answers.{gives}
use Rattle.symcache.specs.Reader.{parsed}
use Rattle.lookup.specs.declared.SourceLocations.{SourceLocations}
use Rattle.lookup.specs.declared.Frame.{Frame}
use Rattle.lookup.specs.Answers.{Framed}
use Rattle.lookup.specs.Lookup.{walk_from_lem, met, framed, ended, step_in_lem, looked_up_lem, stepped}
use Rattle.model.specs.Written.{met?}

-- "The walk ends at MAX, outside the table, or at an index already met"
unfoldable pub ends_by_rule? : List ℕ → SymCache → SourceLocations → Bool
ends_by_rule? s c k =
    eqb k.current max32
    || (leb c.num_source_locations k.current
    || met s c k.current k.first k.steps)

-- ── By the definitions ──

-- the cursors that begin a walk, at any index, and all that steps lead to
pub data Reached (s : List ℕ) (c : SymCache) : SourceLocations → Type 0 where
  from_lookup : (i : ℕ) → Reached s c (walk_from_lem i)
  step_further : {k : SourceLocations} {t : Framed} → Reached s c k → step_in_lem s c k ≡ some t → Reached s c t.next

-- for any bytes and any tables: the clause on the steps adds nothing
abbrev pub NeverCut : Type 0
NeverCut = (s : List ℕ) (c : SymCache) (k : SourceLocations) → Reached s c k → ended s c k ≡ ends_by_rule? s c k

-- ── By the answers of the calls ──

-- the cursors that `lookup` and `next` hand out on the file s, with the frames that `next` gave on the way, the last one first
pub data Handed (s : List ℕ) : List Frame → SourceLocations → Type 0 where
  by_lookup : (x : ℕ) {k : SourceLocations} → looked_up_lem s x ≡ gives k → Handed s [] k
  by_next : {k : SourceLocations} {t : Framed} {fs : List Frame} → Handed s fs k → stepped s k ≡ gives (some t) → Handed s (t.frame ∷ fs) t.next

-- the file was accepted; `next` is at the end exactly where the rule says so, and gives a frame elsewhere; the indexes met are those of the frames given
pub record EndsByRule (s : List ℕ) (fs : List Frame) (k : SourceLocations) : Type 0 where
  pub tables : SymCache
  pub accepted : parsed s ≡ gives tables
  pub ends : (stepped s k ≡ gives none) ↔ (ends_by_rule? s tables k ≡ true)
  pub elsewhere : ends_by_rule? s tables k ≡ false → stepped s k ≡ gives (some (framed s tables k))
  pub already_met : (i : ℕ) → met s tables i k.first k.steps ≡ met? i (map (λ f. f.location_idx) fs)

-- for every file and every cursor that the calls hand out
abbrev pub NextEndsByRule : Type 0
NextEndsByRule = (s : List ℕ) (fs : List Frame) (k : SourceLocations) → Handed s fs k → EndsByRule s fs k
