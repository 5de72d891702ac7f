-- THE WALK OVER ONE LINE, turn by turn: what is still to come, from where the walk stands, is what was to come from where it began.
use mathlib.Core.Path.{◌≡◌, refl, sym, ap, ◌∙◌}
use mathlib.Core.Bool.{cond}
use mathlib.Core.List.{List, [], ◌∷◌, ◌++◌, append_assoc, append-nil}
use Prim.Native.Nat.{ℕ, ◌+◌, ◌*◌, ◌-◌, ◌≤◌, ◌<◌}
use native.Mathlib.Omega.{arith}
use lib.Dec.{ltb}
use lib.ListN.{length, get_or, set, take, length-set}
use lib.Seq.{get_or-set_same, get_or-set_other, take-set-le}
use borrow.Author.Tests.{lt-ltb, le-ltb}
use Rattle.model.specs.Basics.{Span}
use Rattle.model.specs.Machine.{Input, Machine, Ref, WalkedM, walk_m}
use Rattle.scratch.specs.Scratch.{pairs_at, refs_at}
use Rattle.scratch.proofs.Pairs.{pair_at, pairs-above, pairs_below, pairs_next, pairs-none, refs_more}

module _ {Q N Y R P L S : Type 0} (I : Input Q N Y) (M : Machine Q N Y R P L ℕ S) where
  -- ── The walk, case by case ──

  module _ (l : L) (e a : ℕ) (w : S) where
    walk-past : (rs : List Span) → e ≤ a → walk_m I M l e a rs w ≡ record { state = w; calls = []; left = rs; at = a }
    unfolding walk_m
    walk-past [] h = rw (le-ltb a e h, walk_m)
    walk-past (r ∷ rs) h = rw (le-ltb a e h, walk_m)

    walk-last : a < e → walk_m I M l e a [] w ≡ record { state = M.put a l w; calls = []; left = []; at = e }
    unfolding walk_m
    walk-last h = rw (lt-ltb a e h, walk_m)

    module _ (r : Span) (rs : List Span) (h : a < e) where
      abbrev own : S
      own = cond (ltb a r.from) (M.put a l w) w

      walk-stops : e ≤ r.from → walk_m I M l e a (r ∷ rs) w ≡ record { state = own; calls = []; left = r ∷ rs; at = e }
      unfolding walk_m
      walk-stops g = rw (lt-ltb a e h, le-ltb r.from e g, walk_m)

      walk_takes : r.from < e
          → let c = M.enter l own in let o = walk_m I M l e r.to rs c.1 in
          walk_m I M l e a (r ∷ rs) w ≡ record { state = o.state; calls = record { addr = r.from; ref = c.0 } ∷ o.calls; left = o.left; at = o.at }
      unfolding walk_m
      walk_takes g = rw (lt-ltb a e h, lt-ltb r.from e g, walk_m)

  -- ── What is kept ──

  module _ (b n : ℕ) (l : L) (e : ℕ) where
    -- the walk that is still to come: t of the n pairs from word b on are taken, and it stands at a
    abbrev pub ahead : List ℕ → ℕ → ℕ → S → WalkedM ℕ S
    ahead s t a w = walk_m I M l e a (pairs_at s (b + t * 2) (n - t)) w

    module _ (s₀ : List ℕ) (t₀ a₀ : ℕ) (w₀ : S) where
      pub record Inner (s : List ℕ) (t a : ℕ) (w : S) : Type 0 where
        pub state : (ahead s t a w).state ≡ (ahead s₀ t₀ a₀ w₀).state
        pub left : (ahead s t a w).left ≡ (ahead s₀ t₀ a₀ w₀).left
        pub stop : (ahead s t a w).at ≡ (ahead s₀ t₀ a₀ w₀).at
        pub calls : refs_at s b t ++ (ahead s t a w).calls ≡ refs_at s₀ b t₀ ++ (ahead s₀ t₀ a₀ w₀).calls
        pub kept : take b s ≡ take b s₀
        pub len : length s ≡ length s₀
        pub few : t ≤ n
        pub room : b + n * 2 ≤ length s₀

      -- where the walk stops
      pub record Stopped (s : List ℕ) (t a : ℕ) (w : S) : Type 0 where
        pub state : w ≡ (ahead s₀ t₀ a₀ w₀).state
        pub left : pairs_at s (b + t * 2) (n - t) ≡ (ahead s₀ t₀ a₀ w₀).left
        pub stop : a ≡ (ahead s₀ t₀ a₀ w₀).at
        pub calls : refs_at s b t ≡ refs_at s₀ b t₀ ++ (ahead s₀ t₀ a₀ w₀).calls
        pub kept : take b s ≡ take b s₀
        pub len : length s ≡ length s₀
        pub few : t ≤ n

      pub begins : t₀ ≤ n → b + n * 2 ≤ length s₀ → Inner s₀ t₀ a₀ w₀
      begins h r = record { state = refl; left = refl; stop = refl; calls = refl; kept = refl; len = refl; few = h; room = r }

      module _ (s : List ℕ) (t a : ℕ) (w : S) (i : Inner s t a w) where
        -- it stops: nothing more is taken
        stops : (w' : S) (a' : ℕ) → ahead s t a w ≡ record { state = w'; calls = []; left = pairs_at s (b + t * 2) (n - t); at = a' } → Stopped s t a' w'
        stops w' a' q = record {
          state = sym (ap (λ (o : WalkedM ℕ S). o.state) q) ∙ i.state;
          left = sym (ap (λ (o : WalkedM ℕ S). o.left) q) ∙ i.left;
          stop = sym (ap (λ (o : WalkedM ℕ S). o.at) q) ∙ i.stop;
          calls = sym (append-nil (refs_at s b t)) ∙ ap (λ (o : WalkedM ℕ S). refs_at s b t ++ o.calls) (sym q) ∙ i.calls;
          kept = i.kept;
          len = i.len;
          few = i.few;
        }

        -- it goes on: the pair at hand becomes a call location
        module _ (h : t < n) (w₁ : S) (v : ℕ)
            (q : let o = walk_m I M l e (get_or s (b + t * 2 + 1) 0) (pairs_at s (b + (t + 1) * 2) (n - (t + 1))) w₁ in
            ahead s t a w ≡ record { state = o.state; calls = record { addr = get_or s (b + t * 2) 0; ref = v } ∷ o.calls; left = o.left; at = o.at }) where
          abbrev s' : List ℕ
          s' = set s (b + t * 2 + 1) v

          goes_on : Inner s' (t + 1) (get_or s (b + t * 2 + 1) 0) w₁
          goes_on =
              let z : pairs_at s' (b + (t + 1) * 2) (n - (t + 1)) ≡ pairs_at s (b + (t + 1) * 2) (n - (t + 1)) = pairs-above s _ _ _ v (omega arith) in
              let o = ahead s' (t + 1) (get_or s (b + t * 2 + 1) 0) w₁ in
              let f : ahead s t a w ≡ record { state = o.state; calls = record { addr = get_or s (b + t * 2) 0; ref = v } ∷ o.calls; left = o.left; at = o.at } = rw z q in
              let r : b + t * 2 + 1 < length s = omega (arith, i.room, i.len) in
              let g : refs_at s' b (t + 1) ≡ refs_at s b t ++ (record { addr = get_or s (b + t * 2) 0; ref = v } ∷ []) =
              refs_more s' b t
              ∙ rw (pairs_below s b t (b + t * 2 + 1) v (omega arith), get_or-set_same s (b + t * 2 + 1) v 0 r, get_or-set_other s (b + t * 2 + 1) (b + t * 2) v 0 (λ x. omega arith)) refl in
              record {
                state = sym (ap (λ (o : WalkedM ℕ S). o.state) f) ∙ i.state;
                left = sym (ap (λ (o : WalkedM ℕ S). o.left) f) ∙ i.left;
                stop = sym (ap (λ (o : WalkedM ℕ S). o.at) f) ∙ i.stop;
                calls =
                    ap (λ (c : List (Ref ℕ)). c ++ o.calls) g
                    ∙ append_assoc (refs_at s b t) (record { addr = get_or s (b + t * 2) 0; ref = v } ∷ []) o.calls
                    ∙ ap (λ (o : WalkedM ℕ S). refs_at s b t ++ o.calls) (sym f)
                    ∙ i.calls;
                kept = take-set-le b s (b + t * 2 + 1) v (omega arith) ∙ i.kept;
                len = length-set s (b + t * 2 + 1) v ∙ i.len;
                few = omega arith;
                room = i.room;
              }

        -- ── One turn, with the values that the code has ──

        -- the line is at its end
        pub line-ends : e ≤ a → Stopped s t a w
        line-ends h = stops w a (walk-past l e a w _ h)

        -- no inlinee range is left: the rest is the line's own
        pub no_range_left : a < e → n ≤ t → (w' : S) → w' ≡ M.put a l w → Stopped s t e w'
        no_range_left h g w' f = stops w' e (rw (f, pairs-none s (b + t * 2) n t g) (walk-last l e a w h))

        -- the next inlinee range starts at `from`, and what lies before it is the line's own
        module _ (h : a < e) (g : t < n) (from : ℕ) (f : from ≡ get_or s (b + t * 2) 0) (w₁ : S) (o : w₁ ≡ cond (ltb a from) (M.put a l w) w) where
          own_is : w₁ ≡ own l e a w (pair_at s (b + t * 2)) (pairs_at s (b + (t + 1) * 2) (n - (t + 1))) h
          own_is = rw f at o

          -- it starts at or after the line's end
          pub range_after : e ≤ from → Stopped s t e w₁
          range_after p =
              stops w₁ e (rw (own_is, pairs_next s b n t g) (walk-stops l e a w (pair_at s (b + t * 2)) (pairs_at s (b + (t + 1) * 2) (n - (t + 1))) h (rw f at p)))

          -- the line covers it: it becomes a call location, and the walk goes on from its end
          pub range_taken : from < e → (to v : ℕ) (w₂ : S) (s₁ : List ℕ)
              → to ≡ get_or s (b + t * 2 + 1) 0 → (v, w₂) ≡ M.enter l w₁ → s₁ ≡ set s (b + t * 2 + 1) v
              → Inner s₁ (t + 1) to w₂
          range_taken p to v w₂ s₁ q c z =
              let k : (v, w₂) ≡ M.enter l (own l e a w (pair_at s (b + t * 2)) (pairs_at s (b + (t + 1) * 2) (n - (t + 1))) h) = rw own_is at c in
              rw (z, q)
              (goes_on g w₂ v
              (rw (pairs_next s b n t g, ap (λ (x : ℕ × S). x.0) k, ap (λ (x : ℕ × S). x.1) k)
              (walk_takes l e a w (pair_at s (b + t * 2)) (pairs_at s (b + (t + 1) * 2) (n - (t + 1))) h (rw f at p))))

-- one more is taken
pub falls_more : {n t : ℕ} → t < n → n - (t + 1) < n - t
falls_more h = omega arith
