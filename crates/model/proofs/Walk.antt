-- The inner walk over one line.
use mathlib.Core.Path.{◌≡◌, refl, sym, ap, ◌∙◌, subst}
use mathlib.Core.Bool.{Bool, true, false, cond}
use mathlib.Core.Option.{some}
use mathlib.Core.Logic.{◌⊎◌, inl, inr, ◌≢◌, ⊎_elim}
use mathlib.Core.List.{List, [], ◌∷◌}
use Prim.Native.Nat.{ℕ, suc, ◌≤◌, ◌<◌}
use native.Mathlib.Omega.{arith}
use lib.Dec.{ltb}
use borrow.Author.Tests.{lt-ltb, le-ltb}
use Rattle.slices.proofs.Cases.{lt-or_ge}
use Rattle.model.specs.Basics.{◌∈◌, here, there, Span, Asc, Covers}
use Rattle.model.proofs.Ideal.{Map, insert, Call, Walked, walk}
use Rattle.model.proofs.Maps.{insert-same, insert-other}
use Rattle.model.proofs.Spans.{∈-cases, asc-from}

module _ {F : Type 0} where
  abbrev pub call : ℕ → List F → Call F
  call a v = record { addr = a; stack = v }

  -- ascending call locations from a up to but not e
  abbrev pub CallsAsc : ℕ → List (Call F) → ℕ → Type 0
  CallsAsc a [] e = a ≤ e
  CallsAsc a (c ∷ cs) e = (a ≤ c.addr) × CallsAsc (suc c.addr) cs e

  pub calls_lower : (a b : ℕ) (cs : List (Call F)) (e : ℕ) → a ≤ b → CallsAsc b cs e → CallsAsc a cs e
  calls_lower a b [] e h k = omega arith
  calls_lower a b (c ∷ cs) e h k = (omega (arith, k.0), k.1)

  -- the part of the line's frames v that is no inlinee's: x is in the range from `key` on, which no range touches
  pub record Self (m' m : Map F) (rs : List Span) (s x : ℕ) (v : List F) : Type 0 where
    pub key : ℕ
    pub low : s ≤ key
    pub high : key ≤ x
    pub held : m' key ≡ some v
    pub same : (j : ℕ) → key < j → j ≤ x → m' j ≡ m j
    pub clear : (r : Span) → r ∈ rs → (r.to ≤ key) ⊎ (x < r.from)

  pub record WalkPost (v : List F) (e a : ℕ) (rs : List Span) (m : Map F) (o : Walked F) : Type 0 where
    pub at-end : o.at ≡ e
    pub left-asc : Asc e o.left
    pub left_in : (r : Span) → r ∈ o.left → r ∈ rs
    pub left-all : (r : Span) → r ∈ rs → (r.from < e) ⊎ (r ∈ o.left)
    pub calls-asc : CallsAsc a o.calls e
    pub calls-all : (r : Span) → r ∈ rs → r.from < e → call r.from v ∈ o.calls
    pub outside : (k : ℕ) → (k < a) ⊎ (e ≤ k) → o.map k ≡ m k
    pub covered : (k : ℕ) (r : Span) → r ∈ rs → Covers r k → o.map k ≡ m k
    pub self : (x : ℕ) → a ≤ x → x < e → ((r : Span) → r ∈ rs → (x < r.from) ⊎ (r.to ≤ x)) → Self o.map m rs a x v

  -- the walk's own insertion, where the next range starts at b
  abbrev pub gap : ℕ → ℕ → List F → Map F → Map F
  gap a b v m = cond (ltb a b) (insert a v m) m

  gap-yes : (a b : ℕ) (v : List F) (m : Map F) → a < b → gap a b v m ≡ insert a v m
  gap-yes a b v m h = rw (lt-ltb a b h)

  gap_other : (a b : ℕ) (v : List F) (m : Map F) (k : ℕ) → k ≢ a → gap a b v m k ≡ m k
  gap_other a b v m k h = go (ltb a b)
    where
      go : (t : Bool) → cond t (insert a v m) m k ≡ m k
      go true = insert-other a v m k h
      go false = refl

  gap-off : (a b : ℕ) (v : List F) (m : Map F) (k : ℕ) → b ≤ k → gap a b v m k ≡ m k
  gap-off a b v m k h = ⊎_elim (λ l. gap_other a b v m k (omega arith)) (λ g. rw (le-ltb a b g)) (lt-or_ge a b)

  module _ (v : List F) (e : ℕ) where
    walk-last : (a : ℕ) (m : Map F) → a < e → ◌≡◌ {A = Walked F} (walk v e a [] m) (record { map = insert a v m; calls = []; left = []; at = e })
    unfolding walk
    walk-last a m h = rw (lt-ltb a e h, walk)

    walk_end : (a : ℕ) (rs : List Span) (m : Map F) → e ≤ a → ◌≡◌ {A = Walked F} (walk v e a rs m) (record { map = m; calls = []; left = rs; at = a })
    unfolding walk
    walk_end a [] m h = rw (le-ltb a e h, walk)
    walk_end a (r ∷ rs) m h = rw (le-ltb a e h, walk)

    abbrev called : Span → Walked F → Walked F
    called r w = record { map = w.map; calls = call r.from v ∷ w.calls; left = w.left; at = w.at }

    walk_in : (a : ℕ) (r : Span) (rs : List Span) (m : Map F) → a < e → r.from < e → walk v e a (r ∷ rs) m ≡ called r (walk v e r.to rs (gap a r.from v m))
    unfolding walk
    walk_in a r rs m h k = rw (lt-ltb a e h, lt-ltb r.from e k, walk)

    walk-past : (a : ℕ) (r : Span) (rs : List Span) (m : Map F) → a < e → e ≤ r.from → ◌≡◌ {A = Walked F} (walk v e a (r ∷ rs) m) (record { map = gap a r.from v m; calls = []; left = r ∷ rs; at = e })
    unfolding walk
    walk-past a r rs m h k = rw (lt-ltb a e h, le-ltb r.from e k, walk)

    -- the walk stands at the line's end
    post-end : (rs : List Span) (m : Map F) → Asc e rs → WalkPost v e e rs m (walk v e e rs m)
    post-end rs m asc = rw (walk_end e rs m (omega arith)) (record {
      at-end = refl;
      left-asc = asc;
      left_in = λ r i. i;
      left-all = λ r i. inr i;
      calls-asc = omega arith;
      calls-all = λ r i h. let k = asc-from e asc i in absurd (omega arith);
      outside = λ k h. refl;
      covered = λ k r i c. refl;
      self = λ x h k n. absurd (omega arith);
    })

    -- no range is left
    post-last : (a : ℕ) (m : Map F) → a < e → WalkPost v e a [] m (walk v e a [] m)
    post-last a m h = rw (walk-last a m h) (record {
      at-end = refl;
      left-asc = tt;
      left_in = λ r i. i;
      left-all = λ r i. elim i [ ];
      calls-asc = omega arith;
      calls-all = λ r i k. elim i [ ];
      outside = λ k o. insert-other a v m k (⊎_elim (λ l. omega arith) (λ l. omega arith) o);
      covered = λ k r i c. elim i [ ];
      self = λ x l g n. record {
        key = a;
        low = omega arith;
        high = l;
        held = insert-same a v m;
        same = λ j p q. insert-other a v m j (omega arith);
        clear = λ r i. elim i [ ];
      };
    })

    -- the next range starts past the line
    post-past : (a : ℕ) (r : Span) (rs : List Span) (m : Map F) → a < e → e ≤ r.from → Asc a (r ∷ rs) → WalkPost v e a (r ∷ rs) m (walk v e a (r ∷ rs) m)
    post-past a r rs m h k asc = rw (walk-past a r rs m h k, gap-yes a r.from v m (omega arith)) (record {
      at-end = refl;
      left-asc = (k, asc.1, asc.2);
      left_in = λ q i. i;
      left-all = λ q i. inr i;
      calls-asc = omega arith;
      calls-all = λ q i l. let g = asc-from e all i in absurd (omega arith);
      outside = λ j o. insert-other a v m j (⊎_elim (λ l. omega arith) (λ l. omega arith) o);
      covered = λ j q i c. let g = asc-from e all i in insert-other a v m j (omega (arith, c.0));
      self = λ x l g n. record {
        key = a;
        low = omega arith;
        high = l;
        held = insert-same a v m;
        same = λ j p q. insert-other a v m j (omega arith);
        clear = λ q i. let p = asc-from e all i in inr (omega arith);
      };
    })
      where
        all : Asc e (r ∷ rs)
        all = (k, asc.1, asc.2)

    -- the next range starts in the line
    module _ (a : ℕ) (r : Span) (rs : List Span) (m : Map F) (h : a < e) (k : r.from < e) (asc : Asc a (r ∷ rs)) where
      abbrev m₁ : Map F
      m₁ = gap a r.from v m

      post_in : WalkPost v e r.to rs m₁ (walk v e r.to rs m₁) → WalkPost v e a (r ∷ rs) m (walk v e a (r ∷ rs) m)
      post_in p = rw (walk_in a r rs m h k) (record {
        at-end = p.at-end;
        left-asc = p.left-asc;
        left_in = λ q i. there (p.left_in q i);
        left-all = λ q i. ⊎_elim (λ (w : q ≡ r). inl (subst (λ (s : Span). s.from < e) (sym w) k)) (λ j. p.left-all q j) (∈-cases i);
        calls-asc = (asc.0, calls_lower (suc r.from) r.to o.calls e asc.1 p.calls-asc);
        calls-all = λ q i l.
            ⊎_elim (λ (w : q ≡ r). subst (λ (s : Span). call s.from v ∈ (call r.from v ∷ o.calls)) (sym w) here) (λ j. there (p.calls-all q j l)) (∈-cases i);
        outside = λ j z. p.outside j (⊎_elim (λ l. inl (omega (arith, asc))) (λ l. inr l) z) ∙ gap_other a r.from v m j (⊎_elim (λ l. omega arith) (λ l. omega arith) z);
        covered = λ j q i c. ⊎_elim (λ (w : q ≡ r). in_first j (subst (λ (s : Span). Covers s j) w c)) (λ i'. in_rest j q i' c) (∈-cases i);
        self = λ x l g n. ⊎_elim (λ z. self-here x l z) (λ z. self-later x z g (λ q i. n q (there i))) (n r here);
      })
        where
          o : Walked F
          o = walk v e r.to rs m₁

          in_first : (j : ℕ) → Covers r j → o.map j ≡ m j
          in_first j c = p.outside j (inl c.1) ∙ gap-off a r.from v m j c.0

          in_rest : (j : ℕ) (q : Span) → q ∈ rs → Covers q j → o.map j ≡ m j
          in_rest j q i c = let g = asc-from r.to asc.2 i in p.covered j q i c ∙ gap_other a r.from v m j (omega (arith, asc, c))

          self-here : (x : ℕ) → a ≤ x → x < r.from → Self o.map m (r ∷ rs) a x v
          self-here x l z = record {
            key = a;
            low = omega arith;
            high = l;
            held = p.outside a (inl (omega (arith, asc))) ∙ ap (λ (f : Map F). f a) (gap-yes a r.from v m (omega arith)) ∙ insert-same a v m;
            same = λ j y w. p.outside j (inl (omega (arith, asc))) ∙ gap_other a r.from v m j (omega arith);
            clear = λ q i. inr (⊎_elim (λ (w : q ≡ r). subst (λ (s : Span). x < s.from) (sym w) z) (λ i'. let g = asc-from r.to asc.2 i' in omega (arith, asc)) (∈-cases i));
          }

          self-later : (x : ℕ) → r.to ≤ x → x < e → ((q : Span) → q ∈ rs → (x < q.from) ⊎ (q.to ≤ x)) → Self o.map m (r ∷ rs) a x v
          self-later x z g n =
              let s = p.self x z g n in
              record {
                key = s.key;
                low = omega (arith, asc, s.low);
                high = s.high;
                held = s.held;
                same = λ j y w. s.same j y w ∙ gap_other a r.from v m j (omega (arith, asc, s.low));
                clear = λ q i. ⊎_elim (λ (w : q ≡ r). inl (subst (λ (t : Span). t.to ≤ s.key) (sym w) s.low)) (λ i'. s.clear q i') (∈-cases i);
              }

    pub walk-post : (a : ℕ) (rs : List Span) (m : Map F) → a ≤ e → Asc a rs → ((r : Span) → r ∈ rs → r.from < e → r.to ≤ e) → WalkPost v e a rs m (walk v e a rs m)
    walk-post a [] m h asc fits = ⊎_elim (λ l. post-last a m l) (λ g. subst (λ (b : ℕ). WalkPost v e b [] m (walk v e b [] m)) (omega arith) (post-end [] m tt)) (lt-or_ge a e)
    walk-post a (r ∷ rs) m h asc fits = go (lt-or_ge a e) (lt-or_ge r.from e) (walk-post r.to rs)
      where
        go : (a < e) ⊎ (e ≤ a) → (r.from < e) ⊎ (e ≤ r.from)
            → ((m' : Map F) → r.to ≤ e → Asc r.to rs → ((q : Span) → q ∈ rs → q.from < e → q.to ≤ e) → WalkPost v e r.to rs m' (walk v e r.to rs m'))
            → WalkPost v e a (r ∷ rs) m (walk v e a (r ∷ rs) m)
        go (inl l) (inl k) ih = post_in a r rs m l k asc (ih (gap a r.from v m) (fits r here k) asc.2 (λ q i. fits q (there i)))
        go (inl l) (inr k) ih = post-past a r rs m l k asc
        go (inr g) k ih =
            let w : e ≡ a = omega arith in
            subst (λ (b : ℕ). WalkPost v e b (r ∷ rs) m (walk v e b (r ∷ rs) m)) w (post-end (r ∷ rs) m (omega (arith, asc.0), asc.1, asc.2))
