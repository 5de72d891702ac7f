-- THE LOOP OVER A ROW'S LINES: what is still to come, from where it stands, is what was to come from where it began.
use mathlib.Core.Path.{◌≡◌, refl, sym, ap, ◌∙◌}
use mathlib.Core.List.{List, [], ◌∷◌, ◌++◌, map, append_assoc, append-nil}
use Prim.Native.Nat.{ℕ, suc, ◌+◌, ◌*◌, ◌-◌, ◌≤◌, ◌<◌}
use native.Mathlib.Omega.{arith}
use lib.ListN.{length, take}
use borrow.Author.Tests.{lt-ltb, le-ltb, le-leb, lt-leb}
use Rattle.model.specs.Basics.{Span}
use Rattle.model.specs.Rows.{LineRow, FunctionRow, SymbolRow, boundaries, cut32}
use Rattle.model.specs.Machine.{Machine, Ref, LoopedM, advance_m, walk_m, loop_m}
use Rattle.model.specs.Converter.{input}
use Rattle.rows.specs.Columns.{Columns, line_at, lines_from}
use Rattle.rows.proofs.RowLaws.{lines_from_more, lines_from_none}
use Rattle.scratch.specs.Scratch.{pairs_at, ref_of, refs_at, Lined}
use Rattle.scratch.proofs.Pairs.{pair_at, pairs-kept, pairs-none, pairs_next, pairs-whole, pairs-zero}
use Rattle.scratch.proofs.Walks.{Stopped}

-- ── The cursor over the call locations of the row ──

-- `passed` of `count` call locations from word b on are passed, and w is the current one
module _ (s : List ℕ) (b count a w passed : ℕ) where
  pub cursor-end : count ≤ passed → advance_m a w (refs_at s (b + passed * 2) (count - passed)) ≡ record { now = w; next = refs_at s (b + passed * 2) (count - passed) }
  unfolding advance_m
  cursor-end h = rw (pairs-none s (b + passed * 2) count passed h)

  pub cursor-stays : passed < count → a < (pair_at s (b + passed * 2)).from
      → advance_m a w (refs_at s (b + passed * 2) (count - passed)) ≡ record { now = w; next = refs_at s (b + passed * 2) (count - passed) }
  unfolding advance_m
  cursor-stays h g = rw (pairs_next s b count passed h, lt-leb _ _ g, advance_m)

  pub cursor-moves : passed < count → (pair_at s (b + passed * 2)).from ≤ a
      → advance_m a w (refs_at s (b + passed * 2) (count - passed)) ≡ advance_m a (pair_at s (b + passed * 2)).to (refs_at s (b + (passed + 1) * 2) (count - (passed + 1)))
  unfolding advance_m
  cursor-moves h g = rw (pairs_next s b count passed h, le-leb _ _ g, advance_m)

-- ── Lines by one ──

pub lines_next : (k : Columns) (first n j : ℕ) → j < n → lines_from k (first + j) (n - j) ≡ line_at k (first + j) ∷ lines_from k (first + (j + 1)) (n - (j + 1))
lines_next k first n j h =
    let e : n - j ≡ suc (n - (j + 1)) = omega arith in
    let f : first + (j + 1) ≡ suc (first + j) = omega arith in
    rw (e, f) (lines_from_more k (first + j) (n - (j + 1)))

pub lines-done : (k : Columns) (first n j : ℕ) → n ≤ j → lines_from k (first + j) (n - j) ≡ []
lines-done k first n j h = let e : n - j ≡ 0 = omega arith in rw e (lines_from_none k (first + j))

module _ {R P L S : Type 0} (M : Machine FunctionRow LineRow SymbolRow R P L ℕ S) (q : FunctionRow) (r : R) where
  module _ (l : LineRow) (ls : List LineRow) (c : ℕ) (cs : List (Ref ℕ)) (rs : List Span) (below : ℕ) (w : S) where
    loop_skips : cut32 l.address < below → loop_m input M q r (l ∷ ls) c cs rs below w ≡ loop_m input M q r ls c cs rs below w
    unfolding loop_m
    loop_skips h = rw (lt-ltb (cut32 l.address) below h, loop_m)

    loop_does : below ≤ cut32 l.address
        → let x = advance_m (boundaries l).from c cs in
        let p = M.locate q r l x.now w in
        let o = walk_m input M p.0 (boundaries l).to (boundaries l).from rs p.1 in
        let y = loop_m input M q r ls x.now x.next o.left o.at o.state in
        loop_m input M q r (l ∷ ls) c cs rs below w ≡ record { state = y.state; calls = o.calls ++ y.calls }
    unfolding loop_m
    loop_does h = rw (le-ltb (cut32 l.address) below h, loop_m)

  loop-ends : (c : ℕ) (cs : List (Ref ℕ)) (rs : List Span) (below : ℕ) (w : S) → loop_m input M q r [] c cs rs below w ≡ record { state = w; calls = [] }
  unfolding loop_m
  loop-ends c cs rs below w = refl

  -- ── What is kept ──

  -- the row's line rows, its call locations after the first (count pairs from word b), and its inlinee ranges (n pairs from word at on)
  module _ (k : Columns) (first lines b count at n : ℕ) where
    -- the loop that is still to come. j lines are done; `passed` call locations are passed, and c is the current one; t inlinee ranges are taken, and the walk before stopped at `below`
    abbrev pub to_come : List ℕ → ℕ → ℕ → ℕ → ℕ → ℕ → S → LoopedM ℕ S
    to_come s j c passed t below w =
        loop_m input M q r (lines_from k (first + j) (lines - j)) c (refs_at s (b + passed * 2) (count - passed)) (pairs_at s (at + t * 2) (n - t)) below w

    module _ (s₀ : List ℕ) (c₀ : ℕ) (w₀ : S) where
      abbrev pub whole : LoopedM ℕ S
      whole = loop_m input M q r (lines_from k first lines) c₀ (refs_at s₀ b count) (pairs_at s₀ at n) 0 w₀

      pub record Outer (s : List ℕ) (j c passed t below : ℕ) (w : S) : Type 0 where
        pub state : (to_come s j c passed t below w).state ≡ whole.state
        pub calls : refs_at s at t ++ (to_come s j c passed t below w).calls ≡ whole.calls

      pub starts : Outer s₀ 0 c₀ 0 0 0 w₀
      starts =
          let e : first + 0 ≡ first = omega arith in
          let f : lines - 0 ≡ lines = omega arith in
          let z : to_come s₀ 0 c₀ 0 0 0 w₀ ≡ whole = rw (e, f, pairs-whole s₀ b count, pairs-whole s₀ at n) refl in
          let y : refs_at s₀ at 0 ≡ [] = ap (map ref_of) (pairs-zero s₀ at) in
          record { state = ap (λ (o : LoopedM ℕ S). o.state) z; calls = rw y (ap (λ (o : LoopedM ℕ S). o.calls) z) }

      module _ (s : List ℕ) (j c passed t below : ℕ) (w : S) (i : Outer s j c passed t below w) where
        module _ (h : j < lines) where
          abbrev line : LineRow
          line = line_at k (first + j)

          pub line-skipped : cut32 line.address < below → Outer s (j + 1) c passed t below w
          line-skipped g =
              let z : to_come s j c passed t below w ≡ to_come s (j + 1) c passed t below w = rw (lines_next k first lines j h) (loop_skips line _ c _ _ below w g) in
              record {
                state = ap (λ (o : LoopedM ℕ S). o.state) (sym z) ∙ i.state;
                calls = ap (λ (o : LoopedM ℕ S). refs_at s at t ++ o.calls) (sym z) ∙ i.calls;
              }

          -- the cursor moved on, the line was located, and the walk over it stopped
          pub line-done : b + count * 2 ≤ at → below ≤ cut32 line.address
              → (c' passed' : ℕ) → passed' ≤ count
              → advance_m (boundaries line).from c (refs_at s (b + passed * 2) (count - passed)) ≡ record { now = c'; next = refs_at s (b + passed' * 2) (count - passed') }
              → (l : L) (w₁ : S) → M.locate q r line c' w ≡ (l, w₁)
              → (s' : List ℕ) (t' stop : ℕ) (w' : S) → Stopped input M at n l (boundaries line).to s t (boundaries line).from w₁ s' t' stop w'
              → Outer s' (j + 1) c' passed' t' stop w'
          line-done apart g c' passed' p x l w₁ y s' t' stop w' d =
              let o = walk_m input M l (boundaries line).to (boundaries line).from (pairs_at s (at + t * 2) (n - t)) w₁ in
              let u : pairs_at s' (b + passed' * 2) (count - passed') ≡ pairs_at s (b + passed' * 2) (count - passed') = pairs-kept s s' (b + passed' * 2) (count - passed') at d.kept (omega arith) in
              let v = to_come s' (j + 1) c' passed' t' stop w' in
              let z : to_come s j c passed t below w ≡ record { state = v.state; calls = o.calls ++ v.calls } =
              rw (lines_next k first lines j h, u, d.stop, d.left, d.state) (loop_does line _ c _ _ below w g ∙ rw (x, y) refl) in
              record {
                state = ap (λ (o : LoopedM ℕ S). o.state) (sym z) ∙ i.state;
                calls =
                    ap (λ (e : List (Ref ℕ)). e ++ v.calls) d.calls
                    ∙ append_assoc (refs_at s at t) o.calls v.calls
                    ∙ ap (λ (o : LoopedM ℕ S). refs_at s at t ++ o.calls) (sym z)
                    ∙ i.calls;
              }

        pub ended : lines ≤ j → take at s ≡ take at s₀ → t ≤ n → Lined at n whole s₀ s w t
        ended h kept few =
            let z : to_come s j c passed t below w ≡ record { state = w; calls = [] } = rw (lines-done k first lines j h) (loop-ends c _ _ below w) in
            record {
              state = ap (λ (o : LoopedM ℕ S). o.state) (sym z) ∙ i.state;
              calls = sym (append-nil (refs_at s at t)) ∙ ap (λ (o : LoopedM ℕ S). refs_at s at t ++ o.calls) (sym z) ∙ i.calls;
              few = few;
              kept = kept;
            }

-- and the numbers: scratch memory below the inlinee ranges, and how far each of the three lists is
module _ (lines b count at n : ℕ) (s₀ : List ℕ) where
  pub record Keeps (s : List ℕ) (j passed t : ℕ) : Type 0 where
    pub kept : take at s ≡ take at s₀
    pub len : length s ≡ length s₀
    pub few : t ≤ n
    pub done : j ≤ lines
    pub passes : passed ≤ count
    pub room : at + n * 2 ≤ length s₀
    pub apart : b + count * 2 ≤ at

  pub keeps_start : at + n * 2 ≤ length s₀ → b + count * 2 ≤ at → Keeps s₀ 0 0 0
  keeps_start h g = record { kept = refl; len = refl; few = omega arith; done = omega arith; passes = omega arith; room = h; apart = g }

  module _ (s : List ℕ) (j passed t : ℕ) (i : Keeps s j passed t) (h : j < lines) where
    pub keeps_skipped : Keeps s (j + 1) passed t
    keeps_skipped = record { kept = i.kept; len = i.len; few = i.few; done = omega arith; passes = i.passes; room = i.room; apart = i.apart }

    pub keeps_done : (passed' : ℕ) → passed' ≤ count → (s' : List ℕ) (t' : ℕ) → take at s' ≡ take at s → length s' ≡ length s → t' ≤ n → Keeps s' (j + 1) passed' t'
    keeps_done passed' p s' t' d l m = record { kept = d ∙ i.kept; len = l ∙ i.len; few = m; done = omega arith; passes = p; room = i.room; apart = i.apart }
