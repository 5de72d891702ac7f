-- The small things that every other file uses: members of a list, spans of addresses and their order, rows with depths, keys with values, and interning.
use Rattle.std.specs.Prelude.{Bool, true, false, cond, ◌&&◌, ◌⊎◌, List, [], ◌∷◌, map, ℕ, zero, suc, ◌≤◌, ◌<◌, ltb, leb, eqb}

infix 40 ◌∈◌
pub data ◌∈◌ {A : Type 0} (a : A) : List A → Type 0 where
  here : {l : List A} → a ∈ (a ∷ l)
  there : {b : A} {l : List A} → a ∈ l → a ∈ (b ∷ l)

-- ── Spans ──

-- the addresses from `from` up to but not `to`
pub record Span : Type 0 where
  pub from : ℕ
  pub to : ℕ

abbrev pub Covers : Span → ℕ → Type 0
Covers r x = (r.from ≤ x) × (x < r.to)

abbrev pub coversb : Span → ℕ → Bool
coversb r x = leb r.from x && ltb x r.to

-- nonempty, ascending and disjoint, from b on
abbrev pub Asc : ℕ → List Span → Type 0
Asc b [] = Unit {0}
Asc b (r ∷ rs) = (b ≤ r.from) × (r.from < r.to) × Asc r.to rs

abbrev pub Disjoint : Span → Span → Type 0
Disjoint r s = (r.to ≤ s.from) ⊎ (s.to ≤ r.from)

abbrev pub Apart : List Span → Type 0
Apart [] = Unit {0}
Apart (r ∷ rs) = ((s : Span) → s ∈ rs → Disjoint r s) × Apart rs

-- `sort_unstable_by_key` on equal starts has no fixed outcome; "the second sorts by start, then end"
unfoldable pub before : Span → Span → Bool
before r s = cond (ltb r.from s.from) true (cond (eqb r.from s.from) (leb r.to s.to) false)

unfoldable pub place : Span → List Span → List Span
place r [] = r ∷ []
place r (s ∷ ss) = cond (before r s) (r ∷ s ∷ ss) (s ∷ place r ss)

unfoldable pub sort : List Span → List Span
sort [] = []
sort (r ∷ rs) = place r (sort rs)

-- ── Rows with depths ──

pub record Deep (A : Type 0) : Type 0 where
  pub depth : ℕ
  pub item : A

module _ {A : Type 0} where
  abbrev pub items : List (Deep A) → List A
  items = map (λ (d : Deep A). d.item)

  abbrev pub depths : List (Deep A) → List ℕ
  depths = map (λ (d : Deep A). d.depth)

-- d, d + 1, .., n of them
unfoldable pub upto : ℕ → ℕ → List ℕ
upto d zero = []
upto d (suc n) = d ∷ upto (suc d) n

-- ── Tables ──

-- a start and what it holds
pub record Entry (L : Type 0) : Type 0 where
  pub key : ℕ
  pub value : L

-- `IndexSet::insert_full`: the index of the first equal value, or of a new one at the end
pub record Interned (A : Type 0) : Type 0 where
  pub index : ℕ
  pub table : List A

unfoldable pub intern : {A : Type 0} → (A → A → Bool) → List A → A → Interned A
intern eq [] a = record { index = 0; table = a ∷ [] }
intern eq (x ∷ xs) a =
    elim (eq x a) [
      | true ↦ record { index = 0; table = x ∷ xs }
      | false ↦ let r = intern eq xs a in record { index = suc r.index; table = x ∷ r.table }
    ]
