-- The search ends where a lookup means it to: in a file that was opened, at the location of the last start at most the address.
use Prim.Native.Nat.{ℕ, zero, suc, ◌+◌, ◌*◌, ◌-◌, ◌≤◌, ◌<◌}
use mathlib.Core.Path.{◌≡◌, refl, sym, ap}
use mathlib.Core.List.{List}
use mathlib.Core.Option.{Option, none, some}
use mathlib.Core.Bool.{Bool, true, false, cond}
use mathlib.Core.Logic.{◌⊎◌, inl, inr, ⊎_elim}
use native.Mathlib.Omega.{arith}
use lib.Dec.{leb}
use lib.ListN.{length}
use borrow.Author.Tests.{le-leb, leb-true, leb-false, lt-ltb, le-ltb}
use Rattle.slices.proofs.Cases.{lt-or_ge}
use Rattle.raw.specs.Rows.{max32}
use Rattle.search.specs.Search.{start_at, usable, found_in}
use Rattle.search.proofs.SearchLaws.{found-far}
use Rattle.search.proofs.Greatest.{found_greatest, found_none}
use Rattle.symcache.specs.declared.SymCache.{SymCache}
use Rattle.symcache.specs.Answers.{gives}
use Rattle.symcache.specs.Reader.{opened, Within}
use Rattle.symcache.proofs.ReaderLaws.{opened-has}
use Rattle.lookup.specs.Lookup.{last_start, location_of_range, belongs_to, found_at, walk_tested, walk_at_lem, looked_up_lem}
use Rattle.lookup.proofs.LookupLaws.{then-gives}

-- ── What is shown ──

-- in a file that was opened, for every address: `find` gives the location that the address belongs to, and `walk` the walk that `lookup` gives
pub record ByMeaning (s : List ℕ) (c : SymCache) (a : ℕ) : Type 0 where
  pub find : found_at s c a ≡ belongs_to s c a
  pub walk : gives (walk_at_lem s c a) ≡ looked_up_lem s a

abbrev pub SearchByMeaning : Type 0
SearchByMeaning = (s : List ℕ) (c : SymCache) → opened s ≡ gives c → (a : ℕ) → ByMeaning s c a

-- ── The last start ──

-- none: every start lies above the address. Else it is one of them, at most the address, and those after it lie above
abbrev Last : (ℕ → ℕ) → ℕ → ℕ → Option ℕ → Type 0
Last f a n none = (j : ℕ) → j < n → a < f j
Last f a n (some i) = (i < n) × ((f i ≤ a) × ((j : ℕ) → i < j → j < n → a < f j))

last-or-before : (j n : ℕ) → j < suc n → (j ≡ n) ⊎ (j < n)
last-or-before j n h = ⊎_elim inr (λ l. inl (omega arith)) (lt-or_ge j n)

module _ (f : ℕ → ℕ) (a : ℕ) where
  -- one more, above the address
  one-above : (n : ℕ) (o : Option ℕ) → a < f n → Last f a n o → Last f a (suc n) o
  one-above n none t l = λ j h. ⊎_elim (λ z. rw z t) (λ z. l j z) (last-or-before j n h)
  one-above n (some i) t l = (omega (arith, l.0), (l.1.0, λ j g h. ⊎_elim (λ z. rw z t) (λ z. l.1.1 j g z) (last-or-before j n h)))

  last-start : (n : ℕ) → Last f a n (last_start f a n)
  unfolding last_start
  last-start zero = λ j h. absurd (omega arith)
  last-start (suc n) = go (leb (f n) a) refl (last-start n)
    where
      go : (t : Bool) → leb (f n) a ≡ t → Last f a n (last_start f a n) → Last f a (suc n) (cond t (some n) (last_start f a n))
      go true e l = (omega arith, (leb-true (f n) a e, λ j g h. absurd (omega arith)))
      go false e l = one-above n (last_start f a n) (leb-false (f n) a e) l

-- ── The search ──

-- the tables of a file that was opened are usable
within-usable : (bytes : ℕ) (c : SymCache) → Within bytes c → usable bytes c.source_locations c.num_source_locations c.ranges c.num_ranges ≡ true
unfolding usable
within-usable bytes c w =
    rw (
      le-leb c.num_ranges c.num_source_locations w.fewer,
      le-leb (c.ranges + 4 * c.num_ranges) bytes w.ranges,
      le-leb (c.source_locations + 16 * c.num_source_locations) bytes w.locations,
    )

module _ (s : List ℕ) (c : SymCache) (accepted : opened s ≡ gives c) (a : ℕ) where
  module _ (short : a ≤ max32) where
    -- THE LOCATION OF THE GREATEST START AT MOST THE ADDRESS
    pub find_greatest : (i : ℕ) → i < c.num_ranges → start_at s c.ranges i ≤ a → ((j : ℕ) → i < j → j < c.num_ranges → a < start_at s c.ranges j)
        → found_at s c a ≡ (c.num_source_locations - c.num_ranges) + i
    unfolding found_in
    find_greatest i h l g =
        let (w, e) = opened-has s c accepted in
        rw (within-usable (length s) c w, le-leb a max32 short) (found_greatest (start_at s c.ranges) c.num_source_locations c.num_ranges a i e h l g)

    pub find_none : ((j : ℕ) → j < c.num_ranges → a < start_at s c.ranges j) → found_at s c a ≡ max32
    unfolding found_in
    find_none g =
        let (w, e) = opened-has s c accepted in
        rw (within-usable (length s) c w, le-leb a max32 short) (found_none (start_at s c.ranges) c.num_source_locations c.num_ranges a e g)

    found-last : (o : Option ℕ) → Last (start_at s c.ranges) a c.num_ranges o → found_at s c a ≡ location_of_range c o
    unfolding location_of_range
    found-last none l = find_none l
    found-last (some i) l = find_greatest i l.0 l.1.0 l.1.1

  found-meant : found_at s c a ≡ belongs_to s c a
  unfolding belongs_to
  found-meant =
      ⊎_elim
      (λ h. rw (lt-ltb max32 a h) (sym (found-far s c.source_locations c.num_source_locations c.ranges c.num_ranges a h)))
      (λ h. rw (le-ltb max32 a h) (found-last h (last_start (start_at s c.ranges) a c.num_ranges) (last-start (start_at s c.ranges) a c.num_ranges)))
      (lt-or_ge max32 a)

  -- ── The walk ──

  walk-meant : gives (walk_at_lem s c a) ≡ looked_up_lem s a
  unfolding walk_at_lem looked_up_lem
  walk-meant = then-gives (opened s) c (λ (d : SymCache). gives (walk_tested s d (belongs_to s d a))) (gives (walk_at_lem s c a)) accepted (ap (λ (i : ℕ). gives (walk_tested s c i)) found-meant)

pub by_meaning : SearchByMeaning
by_meaning s c e a = record { find = found-meant s c e a; walk = walk-meant s c e a }
