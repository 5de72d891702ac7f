-- The call locations, and the loop over a row's lines.
use mathlib.Core.Path.{◌≡◌, refl, sym, ap, ◌∙◌, subst}
use mathlib.Core.Option.{some}
use mathlib.Core.Logic.{◌⊎◌, inl, inr, ⊎_elim}
use mathlib.Core.List.{List, [], ◌∷◌, ◌++◌}
use Prim.Native.Nat.{ℕ, suc, ◌≤◌, ◌<◌}
use native.Mathlib.Omega.{arith}
use borrow.Author.Tests.{le-ltb, le-leb, lt-leb}
use Rattle.slices.proofs.Cases.{lt-or_ge}
use Rattle.model.specs.Basics.{◌∈◌, here, there, Span, Asc, Covers}
use Rattle.model.proofs.Ideal.{Line, Map, Call, Walked, Looped, Cursor, walk, advance, loop, spans_of, Within}
use Rattle.model.proofs.Spans.{∈-cases, ∈-elim, ∈-map, ∈-left, ∈-right, asc-from, asc-pos, asc_raise}
use Rattle.model.proofs.Walk.{call, CallsAsc, calls_lower, Self, WalkPost, walk-post}

module _ {F : Type 0} where
  advance-on : (a : ℕ) (w : List F) (c : Call F) (cs : List (Call F)) → c.addr ≤ a → advance a w (c ∷ cs) ≡ advance a c.stack cs
  unfolding advance
  advance-on a w c cs h = rw (le-leb c.addr a h, advance)

  advance-off : (a : ℕ) (w : List F) (c : Call F) (cs : List (Call F)) → a < c.addr → ◌≡◌ {A = Cursor F} (advance a w (c ∷ cs)) (record { now = w; next = c ∷ cs })
  unfolding advance
  advance-off a w c cs h = rw (lt-leb c.addr a h, advance)

  -- the walk goes on from where it stands
  pub advance_twice : (a b : ℕ) (w : List F) (cs : List (Call F)) → a ≤ b → (advance b (advance a w cs).now (advance a w cs).next).now ≡ (advance b w cs).now
  unfolding advance
  advance_twice a b w [] h = refl
  advance_twice a b w (c ∷ cs) h = ⊎_elim off (on (advance_twice a b c.stack cs h)) (lt-or_ge a c.addr)
    where
      off : a < c.addr → (advance b (advance a w (c ∷ cs)).now (advance a w (c ∷ cs)).next).now ≡ (advance b w (c ∷ cs)).now
      off l = rw (advance-off a w c cs l)

      on : (advance b (advance a c.stack cs).now (advance a c.stack cs).next).now ≡ (advance b c.stack cs).now
          → c.addr ≤ a → (advance b (advance a w (c ∷ cs)).now (advance a w (c ∷ cs)).next).now ≡ (advance b w (c ∷ cs)).now
      on ih l = rw (advance-on a w c cs l, advance-on b w c cs (omega arith)) ih

  advance-stay : (a : ℕ) (w : List F) (cs : List (Call F)) (e : ℕ) → CallsAsc (suc a) cs e → (advance a w cs).now ≡ w
  unfolding advance
  advance-stay a w [] e h = refl
  advance-stay a w (c ∷ cs) e h = rw (advance-off a w c cs h.0)

  calls-from : {c : Call F} (b : ℕ) {cs : List (Call F)} (e : ℕ) → CallsAsc b cs e → c ∈ cs → b ≤ c.addr
  calls-from b e h here = h.0
  calls-from b e h (there {b = q} i) = let k = calls-from (suc q.addr) e h.1 i in omega (arith, h.0)

  -- at an address for which there is a call location, the walk stands at it
  pub advance-hit : (b : ℕ) (w : List F) (cs : List (Call F)) (e : ℕ) (s : ℕ) (v : List F) → CallsAsc b cs e → call s v ∈ cs → (advance s w cs).now ≡ v
  advance-hit b w [] e s v h i = elim i [ ]
  advance-hit b w (c ∷ cs) e s v h i = ⊎_elim at (later (advance-hit (suc c.addr) c.stack cs e s v h.1)) (∈-cases i)
    where
      at : call s v ≡ c → (advance s w (c ∷ cs)).now ≡ v
      at z =
          let p : s ≡ c.addr = ap (λ (d : Call F). d.addr) z in
          let q : v ≡ c.stack = ap (λ (d : Call F). d.stack) z in
          rw (advance-on s w c cs (omega arith)) (advance-stay s c.stack cs e (subst (λ (n : ℕ). CallsAsc (suc n) cs e) (sym p) h.1) ∙ sym q)

      later : (call s v ∈ cs → (advance s c.stack cs).now ≡ v) → call s v ∈ cs → (advance s w (c ∷ cs)).now ≡ v
      later ih j = let k = calls-from (suc c.addr) e h.1 j in rw (advance-on s w c cs (omega arith)) (ih j)

  -- the same where the walk begins at the first call location
  pub advance-first : (b : ℕ) (c : Call F) (cs : List (Call F)) (e : ℕ) (s : ℕ) (v : List F) → CallsAsc b (c ∷ cs) e → call s v ∈ (c ∷ cs) → (advance s c.stack cs).now ≡ v
  advance-first b c cs e s v h i =
      let k : c.addr ≤ s = calls-from c.addr e (omega arith, h.1) i in
      ap (λ (q : Cursor F). q.now) (sym (advance-on s c.stack c cs k)) ∙ advance-hit b c.stack (c ∷ cs) e s v h i

  calls-append : (a b e : ℕ) (cs ds : List (Call F)) → CallsAsc a cs b → CallsAsc b ds e → CallsAsc a (cs ++ ds) e
  calls-append a b e [] ds h k = calls_lower a b ds e h k
  calls-append a b e (c ∷ cs) ds h k = (h.0, calls-append (suc c.addr) b e cs ds h.1 k)

  -- the frames of a line that stands at s
  abbrev pub frames_of : List F → List (Call F) → Line F → List F
  frames_of w cs l = l.frame ∷ (advance l.span.from w cs).now

  pub record LoopPost (ls : List (Line F)) (w : List F) (cs : List (Call F)) (rs : List Span) (at : ℕ) (m : Map F) (o : Looped F) : Type 0 where
    pub outside : (k : ℕ) → ((l : Line F) → l ∈ ls → (k < l.span.from) ⊎ (l.span.to ≤ k)) → o.map k ≡ m k
    pub covered : (k : ℕ) (r : Span) → r ∈ rs → Covers r k → o.map k ≡ m k
    pub self : (l : Line F) → l ∈ ls → (x : ℕ) → Covers l.span x → ((r : Span) → r ∈ rs → (x < r.from) ⊎ (r.to ≤ x)) → Self o.map m rs l.span.from x (frames_of w cs l)
    pub top : ℕ
    pub calls-asc : CallsAsc at o.calls top
    pub calls-all : (l : Line F) → l ∈ ls → (r : Span) → r ∈ rs → l.span.from ≤ r.from → r.to ≤ l.span.to → call r.from (frames_of w cs l) ∈ o.calls

  module _ (l : Line F) (ls : List (Line F)) (w : List F) (cs : List (Call F)) (rs : List Span) (at : ℕ) (m : Map F) where
    abbrev s : ℕ
    s = l.span.from

    abbrev e : ℕ
    e = l.span.to

    abbrev c : Cursor F
    c = advance s w cs

    abbrev o : Walked F
    o = walk (frames_of w cs l) e s rs m

    abbrev p : Looped F
    p = loop ls c.now c.next o.left o.at o.map

    loop-step : at ≤ s → ◌≡◌ {A = Looped F} (loop (l ∷ ls) w cs rs at m) (record { map = p.map; calls = o.calls ++ p.calls })
    unfolding loop
    loop-step h = rw (le-ltb s at h, loop)

    module _ (asc : Asc at (spans_of (l ∷ ls))) (rasc : Asc at rs) (ins : (r : Span) → r ∈ rs → Within r (l ∷ ls)) where
      after : {l' : Line F} → l' ∈ ls → e ≤ l'.span.from
      after i = asc-from e asc.2 (∈-map (λ (q : Line F). q.span) i)

      -- a range lies in this line, or in a later one
      in_which : (r : Span) → r ∈ rs → ((s ≤ r.from) × (r.to ≤ e)) ⊎ ((e ≤ r.from) × Within r ls)
      in_which r i =
          let (l', i', h, k) = ins r i in
          ⊎_elim
          (λ (z : l' ≡ l). inl (subst (λ (q : Line F). (q.span.from ≤ r.from) × (r.to ≤ q.span.to)) z (h, k)))
          (λ j. let g = after j in inr (omega arith, (l', j, h, k)))
          (∈-cases i')

      walked : WalkPost (frames_of w cs l) e s rs m o
      walked = walk-post (frames_of w cs l) e s rs m (omega (arith, asc.1)) (asc_raise at s rs rasc starts) fits
        where
          starts : (r : Span) → r ∈ rs → s ≤ r.from
          starts r i = ⊎_elim (λ z. z.0) (λ z. omega (arith, z.0, asc.1)) (in_which r i)

          fits : (r : Span) → r ∈ rs → r.from < e → r.to ≤ e
          fits r i h = ⊎_elim (λ z. z.1) (λ z. absurd (omega (arith, z.0))) (in_which r i)

      next-asc : Asc o.at (spans_of ls)
      next-asc = subst (λ (n : ℕ). Asc n (spans_of ls)) (sym walked.at-end) asc.2

      next-left : Asc o.at o.left
      next-left = subst (λ (n : ℕ). Asc n o.left) (sym walked.at-end) walked.left-asc

      next_in : (r : Span) → r ∈ o.left → Within r ls
      next_in r i =
          let g = asc-from e walked.left-asc i in
          let h = asc-pos e walked.left-asc i in
          ⊎_elim (λ z. absurd (omega (arith, z.1))) (λ z. z.1) (in_which r (walked.left_in r i))

      module _ (ih : LoopPost ls c.now c.next o.left o.at o.map p) where
        before-next : (k : ℕ) → k < e → p.map k ≡ o.map k
        before-next k h = ih.outside k (λ l' j. let g = after j in inl (omega arith))

        kept : (k : ℕ) (r : Span) → r ∈ rs → Covers r k → p.map k ≡ m k
        kept k r i z = ⊎_elim early (λ j. ih.covered k r j z ∙ walked.covered k r i z) (walked.left-all r i)
          where
            early : r.from < e → p.map k ≡ m k
            early h =
                let g : k < e = ⊎_elim (λ q. omega (arith, q, z)) (λ q. absurd (omega (arith, q.0))) (in_which r i) in
                before-next k g ∙ walked.covered k r i z

        frames-next : (l' : Line F) → l' ∈ ls → frames_of c.now c.next l' ≡ frames_of w cs l'
        frames-next l' i = let g = after i in rw (advance_twice s l'.span.from w cs (omega (arith, asc.1)))

        self-here : (x : ℕ) → Covers l.span x → ((r : Span) → r ∈ rs → (x < r.from) ⊎ (r.to ≤ x)) → Self p.map m rs s x (frames_of w cs l)
        self-here x z n =
            let q = walked.self x z.0 z.1 n in
            record {
              key = q.key;
              low = q.low;
              high = q.high;
              held = before-next q.key (omega (arith, q.high, z)) ∙ q.held;
              same = λ j g h. before-next j (omega (arith, z)) ∙ q.same j g h;
              clear = q.clear;
            }

        self-later : (l' : Line F) → l' ∈ ls → (x : ℕ) → Covers l'.span x → ((r : Span) → r ∈ rs → (x < r.from) ⊎ (r.to ≤ x)) → Self p.map m rs l'.span.from x (frames_of w cs l')
        self-later l' i x z n =
            let q = ih.self l' i x z (λ r j. n r (walked.left_in r j)) in
            let g = after i in
            record {
              key = q.key;
              low = q.low;
              high = q.high;
              held = q.held ∙ ap some (frames-next l' i);
              same = λ j y h. q.same j y h ∙ walked.outside j (inr (omega (arith, q.low)));
              clear = λ r j.
                  ⊎_elim
                  (λ h. inl (⊎_elim (λ t. omega (arith, t, q.low)) (λ t. absurd (omega (arith, t.0))) (in_which r j)))
                  (λ j'. q.clear r j')
                  (walked.left-all r j);
            }

        call-here : (r : Span) → r ∈ rs → s ≤ r.from → r.to ≤ e → call r.from (frames_of w cs l) ∈ (o.calls ++ p.calls)
        call-here r i h k = let g = asc-pos at rasc i in ∈-left p.calls (walked.calls-all r i (omega arith))

        call-later : (l' : Line F) → l' ∈ ls → (r : Span) → r ∈ rs → l'.span.from ≤ r.from → r.to ≤ l'.span.to → call r.from (frames_of w cs l') ∈ (o.calls ++ p.calls)
        call-later l' i r j h k =
            let g = after i in
            ⊎_elim
            (λ t. absurd (omega arith))
            (λ j'. ∈-right o.calls (subst (λ (v : List F). call r.from v ∈ p.calls) (frames-next l' i) (ih.calls-all l' i r j' h k)))
            (walked.left-all r j)

        step : LoopPost (l ∷ ls) w cs rs at m (loop (l ∷ ls) w cs rs at m)
        step = rw (loop-step asc.0) (record {
          outside = λ k h. ih.outside k (λ l' i. h l' (there i)) ∙ walked.outside k (h l here);
          covered = kept;
          self = ∈-elim (λ (q : Line F). (x : ℕ) → Covers q.span x → ((r : Span) → r ∈ rs → (x < r.from) ⊎ (r.to ≤ x)) → Self p.map m rs q.span.from x (frames_of w cs q)) self-here self-later;
          top = ih.top;
          calls-asc = calls-append at e ih.top o.calls p.calls (calls_lower at s o.calls e asc.0 walked.calls-asc) (subst (λ (n : ℕ). CallsAsc n p.calls ih.top) walked.at-end ih.calls-asc);
          calls-all = ∈-elim (λ (q : Line F). (r : Span) → r ∈ rs → q.span.from ≤ r.from → r.to ≤ q.span.to → call r.from (frames_of w cs q) ∈ (o.calls ++ p.calls)) call-here call-later;
        })

  pub loop-post : (ls : List (Line F)) (w : List F) (cs : List (Call F)) (rs : List Span) (at : ℕ) (m : Map F)
      → Asc at (spans_of ls) → Asc at rs → ((r : Span) → r ∈ rs → Within r ls) → LoopPost ls w cs rs at m (loop ls w cs rs at m)
  unfolding loop
  loop-post [] w cs rs at m asc rasc ins = record {
    outside = λ k h. refl;
    covered = λ k r i z. refl;
    self = λ l i. elim i [ ];
    top = at;
    calls-asc = omega arith;
    calls-all = λ l i. elim i [ ];
  }
  loop-post (l ∷ ls) w cs rs at m asc rasc ins =
      step l ls w cs rs at m asc rasc ins
      (loop-post ls _ _ _ _ _ (next-asc l ls w cs rs at m asc rasc ins) (next-left l ls w cs rs at m asc rasc ins) (next_in l ls w cs rs at m asc rasc ins))
