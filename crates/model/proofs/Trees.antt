-- Rows, inlinees and roots: which keys they change, and what a lookup sees afterwards.
use mathlib.Core.Path.{◌≡◌, refl, sym, ◌∙◌, subst}
use mathlib.Core.Option.{none, some}
use mathlib.Core.Logic.{◌⊎◌, inl, inr, ◌≢◌, ⊎_elim}
use mathlib.Core.List.{List, [], ◌∷◌, ◌++◌, append_assoc}
use Prim.Native.Nat.{ℕ, ◌≤◌, ◌<◌}
use native.Mathlib.Omega.{arith}
use Rattle.model.specs.Basics.{◌∈◌, here, there, Span, sort, Asc, Apart, Disjoint, Covers}
use Rattle.model.proofs.Ideal.{Line, Row, Forest, nil, row, Map, insert-end, insert_soft, Call, Looped, advance, own, visit, convert, convert-root, spans_of, spans, Within, LastEnd, WellRow, WellInlinee, Nested, WellTree, frame_at, stack_at}
use Rattle.model.proofs.Maps.{Keeps, soft_other, soft_keeps, end-other, end_keeps, SameFrames, same-frames, frames-then, end-frames, Sees, sees_keep, sees_lower, solid_mid}
use Rattle.model.proofs.Spans.{∈-elim, ∈-map, map-∈, ∈-left, ∈-right, ∈-append, asc-from, asc-pos, asc_raise, ∈-sort, sort-∈, sort-asc, covered?, covers_yes, covers_no, Out, Off, off-out, apart-right, apart-cross}
use Rattle.model.proofs.Walk.{call, CallsAsc}
use Rattle.model.proofs.Loop.{advance-first, frames_of, LoopPost, loop-post}

module _ {F : Type 0} where
  -- ── The lines of a caller's inlinees ──

  pub spans-pos : (ls : List (Line F)) (f : Forest F) → Nested ls f → (s : Span) → s ∈ spans f → s.from < s.to
  spans-pos ls nil n s i = elim i [ ]
  spans-pos ls (row r kids sibs) n s i = ⊎_elim (λ j. asc-pos r.entry n.0.well.lines-asc j) (λ j. spans-pos ls sibs n.3 s j) (∈-append (spans_of r.lines) i)

  pub spans-within : (ls : List (Line F)) (f : Forest F) → Nested ls f → (s : Span) → s ∈ spans f → Within s ls
  spans-within ls nil n s i = elim i [ ]
  spans-within ls (row r kids sibs) n s i =
      ⊎_elim
      (λ j. let (l, k, e) = map-∈ (λ (q : Line F). q.span) r.lines j in subst (λ (t : Span). Within t ls) (sym e) (n.0.within l k))
      (λ j. spans-within ls sibs n.3 s j)
      (∈-append (spans_of r.lines) i)

  -- what is out of the lines is out of the inlinees' lines
  pub kids-out : (ls : List (Line F)) (f : Forest F) → Nested ls f → (k : ℕ) → Out k (spans_of ls) → Out k (spans f)
  kids-out ls f n k h s i =
      let (l, j, p, q) = spans-within ls f n s i in
      ⊎_elim (λ z. inl (omega arith)) (λ z. inr (omega arith)) (h l.span (∈-map (λ (t : Line F). t.span) j))

  pub kids-off : (ls : List (Line F)) (f : Forest F) → Nested ls f → (k : ℕ) → Off k (spans_of ls) → Off k (spans f)
  kids-off ls f n k h s i =
      let (l, j, p, q) = spans-within ls f n s i in
      ⊎_elim (λ z. inl (omega arith)) (λ z. inr (omega arith)) (h l.span (∈-map (λ (t : Line F). t.span) j))

  last_line : (ls : List (Line F)) (e : ℕ) → LastEnd ls e → (l : Line F) × (l ∈ ls) × (l.span.to ≡ e)
  last_line [] e h = absurd h
  last_line (l ∷ []) e h = (l, here, h)
  last_line (l ∷ l' ∷ ls) e h = let (q, i, z) = last_line (l' ∷ ls) e h in (q, there i, z)

  -- ── Changes ──

  module _ (r : Row F) (kids : Forest F) (well : WellRow r) (apart : Apart (spans kids)) (nested : Nested r.lines kids) where
    own-post : (c : Call F) (cs : List (Call F)) (m : Map F) → LoopPost r.lines c.stack cs (sort (spans kids)) 0 m (own r (spans kids) (c ∷ cs) m)
    unfolding own
    own-post c cs m =
        loop-post r.lines c.stack cs (sort (spans kids)) 0 m
        (asc_raise r.entry 0 (spans_of r.lines) well.lines-asc (λ s i. omega arith))
        (sort-asc (spans kids) apart (spans-pos r.lines kids nested))
        (λ s i. spans-within r.lines kids nested s (sort-∈ (spans kids) i))

    own_out : (cs : List (Call F)) (m : Map F) (k : ℕ) → Out k (spans_of r.lines) → (own r (spans kids) cs m).map k ≡ m k
    unfolding own
    own_out [] m k h = refl
    own_out (c ∷ cs) m k h = (own-post c cs m).outside k (λ l i. h l.span (∈-map (λ (t : Line F). t.span) i))

  visit_cases : (P : Map F → Type 0) (cs : List (Call F)) (g : List (Call F) → Map F → Map F) (m : Map F) → P m → P (g cs m) → P (visit cs g m)
  unfolding visit
  visit_cases P [] g m p q = p
  visit_cases P (c ∷ cs) g m p q = q

  -- one inlinee, without those after it
  abbrev one : Row F → Forest F → List (Call F) → Map F → Map F
  one r kids cs m = visit (own r (spans kids) cs m).calls (convert kids) (insert-end r.stop (own r (spans kids) cs m).map)

  convert-row : (r : Row F) (kids sibs : Forest F) (cs : List (Call F)) (m : Map F) → convert (row r kids sibs) cs m ≡ convert sibs cs (one r kids cs m)
  unfolding convert
  convert-row r kids sibs cs m = refl

  one-off : (ls : List (Line F)) (r : Row F) (kids : Forest F) (cs : List (Call F)) (m : Map F) → WellInlinee ls r → Apart (spans kids) → Nested r.lines kids
      → (k : ℕ) → Off k (spans_of r.lines) → ((ds : List (Call F)) (m' : Map F) → convert kids ds m' k ≡ m' k) → one r kids cs m k ≡ m k
  one-off ls r kids cs m w a n k h ih =
      let o = own r (spans kids) cs m in
      let (l, i, e) = last_line r.lines r.stop w.last in
      let p = asc-pos r.entry w.well.lines-asc (∈-map (λ (t : Line F). t.span) i) in
      let d : k ≢ r.stop = ⊎_elim (λ z. omega arith) (λ z. omega arith) (h l.span (∈-map (λ (t : Line F). t.span) i)) in
      let q : insert-end r.stop o.map k ≡ m k = end-other r.stop o.map k d ∙ own_out r kids w.well a n cs m k (off-out k _ h) in
      visit_cases (λ (g : Map F). g k ≡ m k) o.calls (convert kids) (insert-end r.stop o.map) q (ih o.calls _ ∙ q)

  one_out : (ls : List (Line F)) (r : Row F) (kids : Forest F) (cs : List (Call F)) (m : Map F) → WellInlinee ls r → Apart (spans kids) → Nested r.lines kids
      → (k : ℕ) → Out k (spans_of r.lines) → ((ds : List (Call F)) (m' : Map F) → SameFrames (m' k) (convert kids ds m' k)) → SameFrames (m k) (one r kids cs m k)
  one_out ls r kids cs m w a n k h ih =
      let o = own r (spans kids) cs m in
      let q : SameFrames (m k) (insert-end r.stop o.map k) = frames-then (same-frames (sym (own_out r kids w.well a n cs m k h))) (end-frames r.stop o.map k) in
      visit_cases (λ (g : Map F). SameFrames (m k) (g k)) o.calls (convert kids) (insert-end r.stop o.map) q (frames-then q (ih o.calls _))

  pub convert-off : (ls : List (Line F)) (f : Forest F) (cs : List (Call F)) (m : Map F) → Nested ls f → (k : ℕ) → Off k (spans f) → convert f cs m k ≡ m k
  unfolding convert
  convert-off ls nil cs m n k h = refl
  convert-off ls (row r kids sibs) cs m n k h =
      convert-off ls sibs cs (one r kids cs m) n.3 k (λ s i. h s (∈-right (spans_of r.lines) i))
      ∙ one-off ls r kids cs m n.0 n.1 n.2 k (λ s i. h s (∈-left (spans sibs) i))
      (λ ds m'. convert-off r.lines kids ds m' n.2 k (kids-off r.lines kids n.2 k (λ s i. h s (∈-left (spans sibs) i))))

  -- outside the lines no frames come or go
  pub convert-out : (ls : List (Line F)) (f : Forest F) (cs : List (Call F)) (m : Map F) → Nested ls f → (k : ℕ) → Out k (spans f) → SameFrames (m k) (convert f cs m k)
  unfolding convert
  convert-out ls nil cs m n k h = same-frames refl
  convert-out ls (row r kids sibs) cs m n k h =
      frames-then
      (one_out ls r kids cs m n.0 n.1 n.2 k (λ s i. h s (∈-left (spans sibs) i))
      (λ ds m'. convert-out r.lines kids ds m' n.2 k (kids-out r.lines kids n.2 k (λ s i. h s (∈-left (spans sibs) i)))))
      (convert-out ls sibs cs (one r kids cs m) n.3 k (λ s i. h s (∈-right (spans_of r.lines) i)))

  -- ── The stack ──

  pub frame-none : (ls : List (Line F)) (x : ℕ) → Out x (spans_of ls) → frame_at ls x ≡ none
  unfolding frame_at
  frame-none [] x h = refl
  frame-none (l ∷ ls) x h = rw (covers_no l.span x (h l.span here)) (frame-none ls x (λ s i. h s (there i)))

  pub frame-some : (b : ℕ) (ls : List (Line F)) (x : ℕ) → Asc b (spans_of ls) → (l : Line F) → l ∈ ls → Covers l.span x → frame_at ls x ≡ some l.frame
  unfolding frame_at
  frame-some b [] x asc = λ l i. elim i [ ]
  frame-some b (q ∷ ls) x asc =
      ∈-elim (λ (l : Line F). Covers l.span x → frame_at (q ∷ ls) x ≡ some l.frame)
      (λ c. rw (covers_yes q.span x c))
      (λ l i c.
      let h = asc-from q.span.to asc.2 (∈-map (λ (t : Line F). t.span) i) in
      rw (covers_no q.span x (inr (omega (arith, c.0)))) (frame-some q.span.to ls x asc.2 l i c))

  -- two lines of a row that cover an address are one
  same_line : (b : ℕ) (ls : List (Line F)) (x : ℕ) → Asc b (spans_of ls) → (l : Line F) → l ∈ ls → Covers l.span x → (l' : Line F) → l' ∈ ls → Covers l'.span x → l ≡ l'
  same_line b [] x asc = λ l i. elim i [ ]
  same_line b (q ∷ ls) x asc =
      ∈-elim (λ (l : Line F). Covers l.span x → (l' : Line F) → l' ∈ (q ∷ ls) → Covers l'.span x → l ≡ l')
      (λ c. ∈-elim (λ (l' : Line F). Covers l'.span x → q ≡ l') (λ d. refl) (λ l' i d. let h = after i in absurd (omega (arith, c.1, d.0))))
      (λ l i c.
      ∈-elim (λ (l' : Line F). Covers l'.span x → l ≡ l')
      (λ d. let h = after i in absurd (omega (arith, c.0, d.1)))
      (λ l' j d. same_line q.span.to ls x asc.2 l i c l' j d))
    where
      after : {l : Line F} → l ∈ ls → q.span.to ≤ l.span.from
      after i = asc-from q.span.to asc.2 (∈-map (λ (t : Line F). t.span) i)

  pub stack-none : (f : Forest F) (x : ℕ) → Out x (spans f) → stack_at f x ≡ []
  unfolding stack_at
  stack-none nil x h = refl
  stack-none (row r kids sibs) x h = rw (frame-none r.lines x (λ s i. h s (∈-left (spans sibs) i)), stack_at) (stack-none sibs x (λ s i. h s (∈-right (spans_of r.lines) i)))

  -- a row that covers x, and one that doesn't
  pub stack-row : (r : Row F) (kids sibs : Forest F) (x : ℕ) → WellRow r → (l : Line F) → l ∈ r.lines → Covers l.span x → stack_at (row r kids sibs) x ≡ stack_at kids x ++ (l.frame ∷ [])
  unfolding stack_at
  stack-row r kids sibs x w l i c = rw (frame-some r.entry r.lines x w.lines-asc l i c, stack_at)

  pub stack_skip : (r : Row F) (kids sibs : Forest F) (x : ℕ) → Out x (spans_of r.lines) → stack_at (row r kids sibs) x ≡ stack_at sibs x
  unfolding stack_at
  stack_skip r kids sibs x h = rw (frame-none r.lines x h, stack_at)

  -- ── What is seen ──

  -- nothing is strictly inside the ranges
  abbrev pub Bare : Map F → List Span → Type 0
  Bare m rs = (s : Span) → s ∈ rs → (k : ℕ) → s.from < k → k < s.to → m k ≡ none

  -- each range sees the stack of f, on top of what the call locations hold for the range's start
  abbrev pub Seen : Forest F → Call F → List (Call F) → Map F → Type 0
  Seen f c cs m = (s : Span) → s ∈ spans f → (x : ℕ) → Covers s x → Sees m s.from x (stack_at f x ++ (advance s.from c.stack cs).now)

  visit-hit : (P : Map F → Type 0) (cs : List (Call F)) (g : List (Call F) → Map F → Map F) (m : Map F) {d : Call F} → d ∈ cs
      → ((c : Call F) (cs' : List (Call F)) → cs ≡ c ∷ cs' → P (g (c ∷ cs') m)) → P (visit cs g m)
  unfolding visit
  visit-hit P [] g m i h = elim i [ ]
  visit-hit P (c ∷ cs) g m i h = h c cs refl

  -- a row, where between its own lines and its inlinees the map changes from `own`'s to m₂
  module _ (r : Row F) (kids : Forest F) (c : Call F) (cs : List (Call F)) (m m₂ : Map F)
      (well : WellRow r) (apart : Apart (spans kids)) (nested : Nested r.lines kids)
      (bare : Bare m (spans_of r.lines))
      (keeps : (k : ℕ) → Keeps ((own r (spans kids) (c ∷ cs) m).map k) (m₂ k))
      (bare₂ : (k : ℕ) → r.entry < k → k < r.stop → m₂ k ≡ (own r (spans kids) (c ∷ cs) m).map k)
      (ih : (d : Call F) (ds : List (Call F)) → Bare m₂ (spans kids) → Seen kids d ds (convert kids (d ∷ ds) m₂))
    where
      abbrev o : Looped F
      o = own r (spans kids) (c ∷ cs) m

      abbrev m₃ : Map F
      m₃ = visit o.calls (convert kids) m₂

      post : LoopPost r.lines c.stack cs (sort (spans kids)) 0 m o
      post = own-post r kids well apart nested c cs m

      in_row : (l : Line F) → l ∈ r.lines → (k : ℕ) → l.span.from < k → k < l.span.to → m₂ k ≡ o.map k
      in_row l i k h g =
          let p = asc-from r.entry well.lines-asc (∈-map (λ (t : Line F). t.span) i) in
          let q = well.lines_in l i in
          bare₂ k (omega arith) (omega arith)

      kids-bare : Bare m₂ (spans kids)
      kids-bare s i k h g =
          let (l, j, p, q) = spans-within r.lines kids nested s i in
          in_row l j k (omega arith) (omega arith)
          ∙ post.covered k s (∈-sort (spans kids) i) (omega arith, g)
          ∙ bare l.span (∈-map (λ (t : Line F). t.span) j) k (omega arith) (omega arith)

      inner : (l : Line F) → l ∈ r.lines → (x : ℕ) → Covers l.span x → (s : Span) → s ∈ spans kids → Covers s x
          → Sees m₃ l.span.from x (stack_at kids x ++ frames_of c.stack cs l)
      inner l i x cov s j scov =
          let (l', i', p, q) = spans-within r.lines kids nested s j in
          let e : l' ≡ l = same_line r.entry r.lines x well.lines-asc l' i' (omega (arith, scov), omega (arith, scov)) l i cov in
          let p' : l.span.from ≤ s.from = subst (λ (t : Line F). t.span.from ≤ s.from) e p in
          let q' : s.to ≤ l.span.to = subst (λ (t : Line F). s.to ≤ t.span.to) e q in
          let made : call s.from (frames_of c.stack cs l) ∈ o.calls = post.calls-all l i s (∈-sort (spans kids) j) p' q' in
          visit-hit (λ (g : Map F). Sees g l.span.from x (stack_at kids x ++ frames_of c.stack cs l)) o.calls (convert kids) m₂ made
          (λ d ds z.
          let hit : (advance s.from d.stack ds).now ≡ frames_of c.stack cs l =
          advance-first 0 d ds post.top s.from (frames_of c.stack cs l)
          (subst (λ (t : List (Call F)). CallsAsc 0 t post.top) z post.calls-asc)
          (subst (λ (t : List (Call F)). call s.from (frames_of c.stack cs l) ∈ t) z made) in
          sees_lower p' (subst (λ (t : List F). Sees (convert kids (d ∷ ds) m₂) s.from x (stack_at kids x ++ t)) hit (ih d ds kids-bare s j x scov)))

      outer : (l : Line F) → l ∈ r.lines → (x : ℕ) → Covers l.span x → Out x (spans kids)
          → Sees m₃ l.span.from x (stack_at kids x ++ frames_of c.stack cs l)
      outer l i x cov out =
          let q = post.self l i x cov (λ s j. out s (sort-∈ (spans kids) j)) in
          let mine : Sees m₂ q.key x (frames_of c.stack cs l) = record {
            key = q.key;
            low = omega arith;
            high = q.high;
            held = keeps q.key _ _ q.held;
            bare = λ j h g.
                in_row l i j (omega (arith, q.low)) (omega (arith, cov)) ∙ q.same j h g
                ∙ bare l.span (∈-map (λ (t : Line F). t.span) i) j (omega (arith, q.low)) (omega (arith, cov));
          } in
          rw (stack-none kids x out) (sees_lower q.low (sees_keep (l.frame, _, refl) mine
          (λ k h g. visit_cases (λ (t : Map F). t k ≡ m₂ k) o.calls (convert kids) m₂ refl (convert-off r.lines kids o.calls m₂ nested k
          (λ s j. ⊎_elim (λ z. inr (omega arith)) (λ z. inl (omega arith)) (q.clear s (∈-sort (spans kids) j)))))
          (visit_cases (λ (t : Map F). Keeps (m₂ q.key) (t q.key)) o.calls (convert kids) m₂ (λ f w e. e) (convert-out r.lines kids o.calls m₂ nested q.key
          (λ s j. ⊎_elim (λ z. inr z) (λ z. inl (omega (arith, q.high))) (q.clear s (∈-sort (spans kids) j)))).0)))

      pub node_sees : (l : Line F) → l ∈ r.lines → (x : ℕ) → Covers l.span x → Sees m₃ l.span.from x (stack_at kids x ++ frames_of c.stack cs l)
      node_sees l i x cov = ⊎_elim (λ (s, j, sc). inner l i x cov s j sc) (λ out. outer l i x cov out) (covered? x (spans kids))

  -- a row of a forest, and the rows after it
  module _ (ls : List (Line F)) (r : Row F) (kids sibs : Forest F) (c : Call F) (cs : List (Call F)) (m : Map F)
      (n : Nested ls (row r kids sibs)) (apart : Apart (spans (row r kids sibs))) (bare : Bare m (spans (row r kids sibs)))
      (ih-kids : (d : Call F) (ds : List (Call F)) (m' : Map F) → Bare m' (spans kids) → Seen kids d ds (convert kids (d ∷ ds) m'))
      (ih-sibs : (m' : Map F) → Bare m' (spans sibs) → Seen sibs c cs (convert sibs (c ∷ cs) m'))
    where
      abbrev m₁ : Map F
      m₁ = one r kids (c ∷ cs) m

      cross : (l : Line F) → l ∈ r.lines → (s : Span) → s ∈ spans sibs → Disjoint l.span s
      cross l i s j = apart-cross (spans_of r.lines) (spans sibs) apart l.span (∈-map (λ (t : Line F). t.span) i) s j

      first : (l : Line F) → l ∈ r.lines → (x : ℕ) → Covers l.span x
          → Sees (convert sibs (c ∷ cs) m₁) l.span.from x (stack_at (row r kids sibs) x ++ (advance l.span.from c.stack cs).now)
      first l i x cov =
          let q = node_sees r kids c cs m (insert-end r.stop (own r (spans kids) (c ∷ cs) m).map) n.0.well n.1 n.2
          (λ s j. bare s (∈-left (spans sibs) j))
          (end_keeps r.stop _) (λ k h g. end-other r.stop _ k (omega arith))
          (λ d ds. ih-kids d ds _) l i x cov in
          rw (stack-row r kids sibs x n.0.well l i cov, append_assoc)
          (sees_keep (solid_mid (stack_at kids x) l.frame _) q
          (λ k h g. convert-off ls sibs (c ∷ cs) m₁ n.3 k (λ s j. ⊎_elim (λ z. inl (omega (arith, cov))) (λ z. inr (omega arith)) (cross l i s j)))
          (convert-out ls sibs (c ∷ cs) m₁ n.3 l.span.from (λ s j. ⊎_elim (λ z. inl (omega (arith, cov))) (λ z. inr z) (cross l i s j))).0)

      rest-bare : Bare m₁ (spans sibs)
      rest-bare s j k h g =
          one-off ls r kids (c ∷ cs) m n.0 n.1 n.2 k off
          (λ ds m'. convert-off r.lines kids ds m' n.2 k (kids-off r.lines kids n.2 k off))
          ∙ bare s (∈-right (spans_of r.lines) j) k h g
        where
          off : Off k (spans_of r.lines)
          off q i = ⊎_elim (λ z. inr (omega arith)) (λ z. inl (omega arith)) (apart-cross (spans_of r.lines) (spans sibs) apart q i s j)

      rest : (s : Span) → s ∈ spans sibs → (x : ℕ) → Covers s x
          → Sees (convert sibs (c ∷ cs) m₁) s.from x (stack_at (row r kids sibs) x ++ (advance s.from c.stack cs).now)
      rest s j x cov =
          rw (stack_skip r kids sibs x (λ q i. ⊎_elim (λ z. inr (omega (arith, cov))) (λ z. inl (omega (arith, cov))) (apart-cross (spans_of r.lines) (spans sibs) apart q i s j)))
          (ih-sibs m₁ rest-bare s j x cov)

      row_seen : Seen (row r kids sibs) c cs (convert (row r kids sibs) (c ∷ cs) m)
      row_seen s i x cov =
          rw (convert-row r kids sibs (c ∷ cs) m)
          (⊎_elim
          (λ j.
          let (l, k, e) = map-∈ (λ (q : Line F). q.span) r.lines j in
          subst (λ (t : Span). Sees (convert sibs (c ∷ cs) m₁) t.from x (stack_at (row r kids sibs) x ++ (advance t.from c.stack cs).now)) (sym e)
          (first l k x (subst (λ (t : Span). Covers t x) e cov)))
          (λ j. rest s j x cov)
          (∈-append (spans_of r.lines) i))

  pub convert-seen : (ls : List (Line F)) (f : Forest F) (c : Call F) (cs : List (Call F)) (m : Map F)
      → Nested ls f → Apart (spans f) → Bare m (spans f) → Seen f c cs (convert f (c ∷ cs) m)
  convert-seen ls nil c cs m n a b = λ s i. elim i [ ]
  convert-seen ls (row r kids sibs) c cs m n a b =
      row_seen ls r kids sibs c cs m n a b
      (λ d ds m'. convert-seen r.lines kids d ds m' n.2 n.1)
      (λ m'. convert-seen ls sibs c cs m' n.3 (apart-right (spans_of r.lines) (spans sibs) a))

  -- ── A root ──

  abbrev base : Call F
  base = record { addr = 0; stack = [] }

  module _ (r : Row F) (kids : Forest F) (m : Map F) (well : WellTree r kids) where
    abbrev mid : Map F
    mid = insert-end r.stop (insert_soft r.entry (r.bare ∷ []) (own r (spans kids) (base ∷ []) m).map)

    root-step : convert-root r kids m ≡ visit (own r (spans kids) (base ∷ []) m).calls (convert kids) mid
    unfolding convert-root
    root-step = refl

    line_bounds : (s : Span) → s ∈ spans_of r.lines → (r.entry ≤ s.from) × (s.to ≤ r.stop)
    line_bounds s i =
        let (l, j, e) = map-∈ (λ (q : Line F). q.span) r.lines i in
        (asc-from r.entry well.root.lines-asc i, subst (λ (t : Span). t.to ≤ r.stop) (sym e) (well.root.lines_in l j))

    -- only keys from the entry to the end change
    pub root-off : (k : ℕ) → (k < r.entry) ⊎ (r.stop < k) → convert-root r kids m k ≡ m k
    root-off k h =
        let sz = well.root.sized in
        let off : Off k (spans_of r.lines) = λ s i. let q = line_bounds s i in ⊎_elim (λ z. inl (omega (arith, q))) (λ z. inr (omega (arith, q))) h in
        let e : mid k ≡ m k =
        end-other r.stop _ k (⊎_elim (λ z. omega arith) (λ z. omega arith) h)
        ∙ soft_other r.entry (r.bare ∷ []) _ k (⊎_elim (λ z. omega arith) (λ z. omega arith) h)
        ∙ own_out r kids well.root well.apart well.nested (base ∷ []) m k (off-out k _ off) in
        rw root-step (visit_cases (λ (g : Map F). g k ≡ m k) _ (convert kids) mid e
        (convert-off r.lines kids _ mid well.nested k (kids-off r.lines kids well.nested k off) ∙ e))

    -- and outside the extent no frames come or go: at the end, too
    pub root-out : (k : ℕ) → (k < r.entry) ⊎ (r.stop ≤ k) → SameFrames (m k) (convert-root r kids m k)
    root-out k h =
        let sz = well.root.sized in
        let out : Out k (spans_of r.lines) = λ s i. let q = line_bounds s i in ⊎_elim (λ y. inl (omega (arith, q))) (λ y. inr (omega (arith, q))) h in
        let before : SameFrames (m k) (mid k) =
        frames-then
        (same-frames (sym (soft_other r.entry (r.bare ∷ []) _ k (⊎_elim (λ z. omega arith) (λ z. omega arith) h) ∙ own_out r kids well.root well.apart well.nested (base ∷ []) m k out)))
        (end-frames r.stop _ k) in
        rw root-step (visit_cases (λ (g : Map F). SameFrames (m k) (g k)) _ (convert kids) mid before
        (frames-then before (convert-out r.lines kids _ mid well.nested k (kids-out r.lines kids well.nested k out))))

    -- each line sees the tree's stack, if there is no key strictly inside the extent
    pub root_sees : ((k : ℕ) → r.entry < k → k < r.stop → m k ≡ none) → (l : Line F) → l ∈ r.lines → (x : ℕ) → Covers l.span x
        → Sees (convert-root r kids m) l.span.from x (stack_at (row r kids nil) x)
    unfolding advance
    root_sees b l i x cov =
        rw (root-step, stack-row r kids nil x well.root l i cov)
        (node_sees r kids base [] m mid well.root well.apart well.nested
        (λ s j k h g. let q = line_bounds s j in b k (omega (arith, q)) (omega (arith, q)))
        (λ k f w e. end_keeps r.stop _ k f w (soft_keeps r.entry _ _ k f w e))
        (λ k h g. end-other r.stop _ k (omega arith) ∙ soft_other r.entry _ _ k (omega arith))
        (λ d ds. convert-seen r.lines kids d ds mid well.nested well.apart)
        l i x cov)
