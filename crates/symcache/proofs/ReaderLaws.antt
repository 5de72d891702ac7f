-- Laws of the reader.
use Prim.Native.Nat.{ℕ, ◌+◌, ◌*◌, ◌≤◌}
use mathlib.Core.Path.{◌≡◌, refl}
use mathlib.Core.List.{List}
use mathlib.Core.Bool.{Bool, true, false, not}
use native.Mathlib.Omega.{arith}
use lib.ListN.{length}
use borrow.Author.Tests.{le-ltb, le-leb, ltb-false, eq-eqb, ne_eqb, not-false}
use Rattle.raw.specs.declared.VersionInfo.{VersionInfo}
use Rattle.raw.specs.declared.Header.{Header}
use Rattle.raw.specs.Rows.{version_info_at, header_at}
use Rattle.search.specs.Search.{ordered}
use Rattle.symcache.specs.declared.ErrorKind.TheVariants as kind
use Rattle.symcache.specs.declared.SymCache.{SymCache}
use Rattle.symcache.specs.Answers.{Refusal, Answer, gives, refuses, refusal_of, refuse_if, and_then}
use Rattle.symcache.specs.Reader.{magic, reversed_magic, layout_of, tested, parsed, start_at, ascending, opened, Within}

-- ── A file whose first bytes are accepted ──

module _ (s : List ℕ) (v : VersionInfo) (e : v ≡ version_info_at s 0) (h₁ : 8 ≤ length s) (h₂ : v.magic ≡ reversed_magic → ⊥) (h₃ : v.magic ≡ magic) (h₄ : v.version ≡ 9) where
  pub then-tables : 80 ≤ length s → (h : Header) (c : SymCache) → h ≡ header_at s 8 → c ≡ layout_of h → tested (length s) c h.variable_header ≡ parsed s
  unfolding parsed refuse_if
  then-tables m h c i k = rw (le-ltb (length s) 8 h₁, ← e, ne_eqb v.magic reversed_magic h₂, eq-eqb v.magic magic h₃, eq-eqb v.version 9 h₄, le-ltb (length s) 80 m, ← i, k)

-- ── What an accepted file has ──

-- a test that an accepted file has passed
passed : {A : Type 0} (b : Bool) (r : Refusal) (y : Answer A) (a : A) → refuse_if b r y ≡ gives a → (b ≡ false) × (y ≡ gives a)
unfolding refuse_if
passed true r y a e = let bad : ◌≡◌ {A = ℕ} 0 1 = cc in absurd (omega arith)
passed false r y a e = (refl, e)

pub tested-within : (n : ℕ) (d : SymCache) (v : ℕ) (c : SymCache) → tested n d v ≡ gives c → (d ≡ c) × Within n c
unfolding tested
tested-within n d v c e =
    let (t₁, e₁) = passed _ _ _ c e in
    let (t₂, e₂) = passed _ _ _ c e₁ in
    let (t₃, e₃) = passed _ _ _ c e₂ in
    let (t₄, e₄) = passed _ _ _ c e₃ in
    let (t₅, e₅) = passed _ _ _ c e₄ in
    let (t₆, e₆) = passed _ _ _ c e₅ in
    let (t₇, e₇) = passed _ _ _ c e₆ in
    let same : d ≡ c = cc in (
      same,
      rw (← same) (record {
        files = ltb-false n (d.files + 24 * d.num_files) t₁;
        functions = ltb-false n (d.functions + 16 * d.num_functions) t₂;
        locations = ltb-false n (d.source_locations + 16 * d.num_source_locations) t₃;
        ranges = ltb-false n (d.ranges + 4 * d.num_ranges) t₄;
        fewer = ltb-false d.num_source_locations d.num_ranges t₅;
        strings = ltb-false n (d.strings + d.string_bytes) t₆;
      }),
    )

pub parsed-within : (s : List ℕ) (c : SymCache) → parsed s ≡ gives c → (layout_of (header_at s 8) ≡ c) × Within (length s) c
unfolding parsed
parsed-within s c e =
    let (t₁, e₁) = passed _ _ _ c e in
    let (t₂, e₂) = passed _ _ _ c e₁ in
    let (t₃, e₃) = passed _ _ _ c e₂ in
    let (t₄, e₄) = passed _ _ _ c e₃ in
    let (t₅, e₅) = passed _ _ _ c e₄ in
    tested-within (length s) (layout_of (header_at s 8)) (header_at s 8).variable_header c e₅

-- the starts of a file that was read lie in it
pub read-ordered : (s : List ℕ) (c : SymCache) → parsed s ≡ gives c → ordered s c.ranges c.num_ranges ≡ ascending (start_at s c.ranges) c.num_ranges
unfolding ordered
read-ordered s c e = rw (le-leb (c.ranges + 4 * c.num_ranges) (length s) (parsed-within s c e).1.ranges)

pub opened-accepted : (s : List ℕ) (c : SymCache) → parsed s ≡ gives c → ascending (start_at s c.ranges) c.num_ranges ≡ true → gives c ≡ opened s
unfolding opened and_then refuse_if
opened-accepted s c e a = rw (e, and_then, a)

pub opened-unordered : (s : List ℕ) (c : SymCache) → parsed s ≡ gives c → ascending (start_at s c.ranges) c.num_ranges ≡ false → refuses (refusal_of kind.UnorderedRanges) ≡ opened s
unfolding opened and_then refuse_if
opened-unordered s c e a = rw (e, and_then, a)

pub opened-refused : (s : List ℕ) (r : Refusal) → parsed s ≡ refuses r → refuses r ≡ opened s
unfolding opened and_then refuse_if
opened-refused s r e = rw (e, and_then)

-- what `open` cites
pub ruleset open_cases = (read-ordered, opened-accepted, opened-unordered, opened-refused)

-- what was opened was read
pub opened-parsed : (s : List ℕ) (c : SymCache) → opened s ≡ gives c → parsed s ≡ gives c
unfolding opened and_then
opened-parsed s c e = go (parsed s) e
  where
    go : (p : Answer SymCache) → and_then p (λ d. refuse_if (not (ascending (start_at s d.ranges) d.num_ranges)) (refusal_of kind.UnorderedRanges) (gives d)) ≡ gives c
        → p ≡ gives c
    go (gives d) h = (passed (not (ascending (start_at s d.ranges) d.num_ranges)) (refusal_of kind.UnorderedRanges) (gives d) c h).1
    go (refuses r) h = let z : ◌≡◌ {A = ℕ} 0 1 = cc in absurd (omega arith)

-- what an opened file has
pub opened-has : (s : List ℕ) (c : SymCache) → opened s ≡ gives c → Within (length s) c × (ascending (start_at s c.ranges) c.num_ranges ≡ true)
unfolding opened and_then
opened-has s c e = go (parsed s) refl e
  where
    go : (p : Answer SymCache) → parsed s ≡ p
        → and_then p (λ d. refuse_if (not (ascending (start_at s d.ranges) d.num_ranges)) (refusal_of kind.UnorderedRanges) (gives d)) ≡ gives c
        → Within (length s) c × (ascending (start_at s c.ranges) c.num_ranges ≡ true)
    go (gives d) g h =
        let (t, u) = passed (not (ascending (start_at s d.ranges) d.num_ranges)) (refusal_of kind.UnorderedRanges) (gives d) c h in
        let same : d ≡ c = cc in
        ((parsed-within s c (rw same at g)).1, rw same at (not-false (ascending (start_at s d.ranges) d.num_ranges) t))
    go (refuses r) g h = let z : ◌≡◌ {A = ℕ} 0 1 = cc in absurd (omega arith)
